-- What the type of an admitted plan says of it.
use Rattle.std.proofs.Common.{is_some, ap, arith}
use Rattle.std.proofs.lemmas.List.{length-map}
use Rattle.tasks.proofs.Admitting.{plan_lowest}
use Rattle.tasks.proofs.OneRow.{valid_tasks}
use Rattle.tasks.specs.Admission.{plan_tasks}
use Rattle.tasks.specs.Tables.{task_of}
use Rattle.tasks.specs.declared.plan.AdmittedPlan.{AdmittedPlan}
use Rattle.theory.proofs.Exact.{every_row_fits}
use Rattle.machine.specs.Plans.{Planned}
use Rattle.run.specs.Views.{plan_of}

-- A run can be made of it.
pub planned : (p : AdmittedPlan) → Planned (plan_of p)
planned p =
    let low = plan_lowest p in
    record {
      valid = valid_tasks _;
      few = omega (arith, length-map p.tasks.items task_of, p.tasks.ok.0, p.few);
      level = p.some;
      listed = low.is_listed;
      fits = every_row_fits p.level (plan_tasks p) p.some (valid_tasks _) (ap is_some low.passes);
    }
