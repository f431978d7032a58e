use Rattle.std.proofs.Common.{nat_lt, nat_le, not, ◌&&◌, rules}
use Rattle.run.specs.Views.{plan_of}
use Rattle.run.proofs.opening.check.Goals as goal

pub returns : goal.returns
returns g c =
    let late = c.in_ok-check_each.ensures (λ a. nat_lt 65535 a) (λ x r k. search rules) in
    let untaken = c.in_ok-check_each-2.ensures (λ f. nat_le f (plan_of c.args.plan.now).admitted && not ((g.U.SpeedUnit.nature c.args.unit.now).takes f)) (λ x r k. search rules) in
    let early = c.check_each-3.ensures (λ a. nat_lt a (g.U.SpeedUnit.nature c.args.unit.now).raise) (λ x r k. search rules) in
    search rules

pub returns-in_err-check_each-2 : goal.returns-in_err-check_each-2
returns-in_err-check_each-2 g c =
    let late = c.in_ok-check_each.ensures (λ a. nat_lt 65535 a) (λ x r k. search rules) in
    let untaken = c.in_err-check_each-2.ensures (λ f. nat_le f (plan_of c.args.plan.now).admitted && not ((g.U.SpeedUnit.nature c.args.unit.now).takes f)) (λ x r k. search rules) in
    search rules
