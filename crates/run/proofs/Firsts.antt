-- The first releases of the rows, and the delay queue that they fill.
use Rattle.std.proofs.Common.{◌≡◌, ℕ, ◌+◌, ◌<◌, ◌≤◌, List, [], ◌∷◌, length, get_or, take, drop, replicate, refl, sym, ap, ◌∙◌, add-one, arith}
use Rattle.std.proofs.lemmas.List.{take-replicate, at_drop_more, at_drop_all}
use Rattle.queue.specs.declared.Entry.{Entry}
use Rattle.queue.specs.Entries.{sooner}
use Rattle.queue.specs.Order.{ordered}
use Rattle.theory.specs.Tasks.{Task}
use Rattle.machine.specs.Begin.{firsts, put_all}
use Rattle.machine.specs.Inner.{release_at}

-- The next row is put into the queue.
pub put_next : (i : ℕ) (bs : List ℕ) (d : List Entry) → i < length bs →
    put_all (i + 1) (drop (i + 1) bs) (ordered sooner (release_at (get_or bs i 0) i) d) ≡ put_all i (drop i bs) d
put_next i bs d lt =
    ap (λ (k : ℕ). put_all k (drop (i + 1) bs) (ordered sooner (release_at (get_or bs i 0) i) d)) (add-one i) ∙ sym (at_drop_more (λ (l : List ℕ). put_all i l d) bs i 0 lt)

-- No row is left.
pub put_last : (i : ℕ) (bs : List ℕ) (d : List Entry) → length bs ≤ i → put_all i (drop i bs) d ≡ d
put_last i bs d le = at_drop_all (λ (l : List ℕ). put_all i l d) bs i le

-- Where none is given, they are the raise allowance for each row.
pub firsts_none : (raise : ℕ) (ts : List Task) (starts : List ℕ) (n : ℕ) → length starts ≡ 0 → length ts ≡ n → n ≤ 32 → firsts raise ts starts ≡ take n (replicate 32 raise)
firsts_none raise ts [] n z same few = ap (λ (k : ℕ). replicate k raise) same ∙ sym (take-replicate n 32 raise few)
firsts_none raise ts (a ∷ bs) n z same few = absurd (omega arith)

-- Where some are given, they are those.
pub firsts_given : (raise : ℕ) (ts : List Task) (starts : List ℕ) → 0 < length starts → firsts raise ts starts ≡ starts
firsts_given raise ts [] z = absurd (omega arith)
firsts_given raise ts (a ∷ bs) z = refl
