-- What the parts of a run mean: the state of the machine, and the plan that it runs.
use Rattle.std.specs.Prelude.{List, take}
use Rattle.queue.specs.declared.Entry.{Entry}
use Rattle.tasks.specs.Admission.{plan_levels, plan_tasks}
use Rattle.tasks.specs.declared.plan.AdmittedPlan.{AdmittedPlan}
use Rattle.units.specs.Meaning.{Meaning}
use Rattle.machine.specs.Inner as machine
use Rattle.machine.specs.Machine.{State as MachineState, Now}
use Rattle.machine.specs.Plans.{Plan}
use Rattle.run.specs.declared.inner.Inner.{Inner}
use Rattle.run.specs.declared.line.Line.{Line}
use Rattle.run.specs.declared.run.Run.{Run}
use Rattle.run.specs.declared.state.State.{State}

-- A plan by its tasks, its levels and the admitted one.
abbrev pub plan_of : AdmittedPlan → Plan
plan_of p = record { tasks = plan_tasks p; levels = plan_levels p; admitted = p.level }

-- The entries of a line: those in the first slots.
abbrev pub line_of : Line → List Entry
line_of l = take l.taken l.slots

-- The rows.
abbrev pub inner_of : Inner → machine.Inner
inner_of s = record {
  delay = line_of s.delay;
  queue = line_of s.ready;
  active = s.active;
  jobs = s.jobs;
}

abbrev pub state_of : State → MachineState
state_of s = record { count = s.count; inner = inner_of s.inner; pace = s.pace; raise = s.allowed.raise; wake = s.allowed.wake }

-- The state of a run with its unit.
abbrev pub now_of : State → Meaning → Now
now_of s u = record { state = state_of s; unit = u }

-- The plan of a run, and where the run and its unit stand.
abbrev pub plan_in : Run → Plan
plan_in r = plan_of r.plan

abbrev pub moment : Run → Meaning → Now
moment r u = now_of r.state u
