use Rattle.std.proofs.Common.{◌≡◌, ◌^◌, ◌<◌, take, drop}
use Rattle.std.specs.Str.{all_ascii_digits}
use Rattle.sheet.specs.Text.{value}
use Rattle.sheet.proofs.text.value.Given as goal

-- The value of the bytes so far, and whether all are digits depends on those that are left.
abbrev pub invariant-loop-b : goal.invariant-loop-b
invariant-loop-b l =
    (all_ascii_digits (drop l.b-index l.digits) ≡ all_ascii_digits l.digits) × (l.value ≡ value (take l.b-index l.digits)) × (l.value < 10 ^ l.b-index)
