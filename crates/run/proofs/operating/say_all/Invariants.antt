use Rattle.std.proofs.Common.{◌≡◌, ℕ, ◌+◌, List, ◌++◌, map, reverse, take, vec_len, vec_capacity}
use Rattle.units.specs.Meaning.{Meaning}
use Rattle.machine.specs.Reached.{Reached}
use Rattle.run.specs.Views.{plan_in, moment}
use Rattle.run.proofs.operating.say_all.Given as goal

-- Run and unit are those that they were, and the events so far lead to where they stand.
abbrev pub invariant-loop-word : goal.invariant-loop-word
invariant-loop-word g l =
    let x = g.U.SpeedUnit.nature l.initial.unit in
    (g.U.SpeedUnit.nature l.unit ≡ x) × (l.run.plan ≡ l.initial.run.plan) × (vec_len l.events ≡ vec_len l.initial.events + l.word-index) ×
    (vec_capacity l.events ≡ vec_capacity l.initial.events) ×
    (map (λ e. e.word) l.events.items ≡ map (λ e. e.word) l.initial.events.items ++ take l.word-index l.words) ×
    ((starts : List ℕ) (u : Meaning) → Reached x (plan_in l.initial.run) starts u (reverse l.initial.events.items) (moment l.initial.run (g.U.SpeedUnit.meaning l.initial.unit)) →
    Reached x (plan_in l.initial.run) starts u (reverse l.events.items) (moment l.run (g.U.SpeedUnit.meaning l.unit)))
