-- What words lead to is reached, where the lags are within the allowances.
use Rattle.std.proofs.Common.{ℕ, zero, suc, refl}
use Rattle.units.specs.Meaning.{Meaning}
use Rattle.machine.specs.declared.word.Word.{Word}
use Rattle.machine.specs.Machine.{Within}
use Rattle.witnesses.specs.Saying.{Setting, Course, say, say_times, IsReached}

-- The unit keeps its allowances, whatever it means.
abbrev pub Keeps : Setting → Type 0
Keeps s = (u : Meaning) → Within s.nature (s.lags u)

-- One more word leads on from what is reached.
pub reached_say : (s : Setting) → Keeps s → (word : Word) (c : Course) → IsReached s c → IsReached s (say s word c)
reached_say s keeps word c reached =
    let u = c.now.unit in
    (c.now, reached, record { lags = s.lags u; within = keeps u; is = refl })

-- So does the same word, said n times.
pub reached_times : (s : Setting) → Keeps s → (word : Word) (n : ℕ) (c : Course) → IsReached s c → IsReached s (say_times s word n c)
reached_times s keeps word zero c reached = reached
reached_times s keeps word (suc n) c reached = reached_times s keeps word n (say s word c) (reached_say s keeps word c reached)
