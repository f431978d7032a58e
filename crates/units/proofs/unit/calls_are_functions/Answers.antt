use Rattle.units.proofs.Calls.{ask_is, rest_is, tick_is}
use Rattle.units.proofs.unit.calls_are_functions.Goals as goal

pub returns : goal.returns
returns c = record { ask = ask_is; rest = rest_is; tick = tick_is }
