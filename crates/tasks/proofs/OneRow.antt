-- The search of one row, over the loads at a level.
use Rattle.std.proofs.Common.{◌≡◌, ℕ, zero, suc, ◌+◌, ◌^◌, ◌<◌, ◌≤◌, List, [], ◌∷◌, ◌++◌, map, length, get_or, take, Some, None, sym, refl, ap, ◌∙◌, subst, ap₂, arith, below_none, below_more, lit<}
use Rattle.std.proofs.lemmas.List.{get_or_append_left, get_or_push, length-append, length-map, map-append, take_more}
use Rattle.theory.proofs.Tables.{Answered, all_answered, first_fails}
use Rattle.theory.specs.Lists.{All}
use Rattle.theory.specs.Search.{next_point, NoneBelow}
use Rattle.theory.specs.Tasks as theory
use Rattle.theory.specs.Tasks.{Valid, cost, demand, no_task}
use Rattle.theory.specs.Test.{down_to, answer, answers, first_failing}
use Rattle.theory.proofs.Demand.{demand_mono, asks_a_job}
use Rattle.theory.proofs.Lists.{valid_down}
use Rattle.theory.proofs.Next.{next_from, next_last, next_asks_no_more}
use Rattle.theory.proofs.Points.{point_bounds}
use Rattle.theory.proofs.Search.{exhausted, jump, found, from_above}
use Rattle.tasks.specs.declared.answer.Answer.{Answer}
use Rattle.tasks.specs.declared.load.Load.{Load}
use Rattle.tasks.specs.declared.task.Task.{Task}
use Rattle.tasks.specs.Loads.{asked, next, LoadOf, Loads}
use Rattle.tasks.specs.Tables.{task_of, point_demand}
use Rattle.tasks.proofs.Loads.{asked_is, next_is, loads_more}

-- A task of the code is in the ranges that the theory asks for.
pub valid_task : (t : Task) → Valid (task_of t)
valid_task t = record { some_work = t.some_work; some_time = t.some_time; in_period = t.in_period }

-- So are those of a table.
pub valid_tasks : (tasks : List Task) → All Valid (map task_of tasks)
valid_tasks [] = tt
valid_tasks (t ∷ ts) = (valid_task t, valid_tasks ts)

-- The rows down to the one at the place i.
pub front : (ts : List theory.Task) (i : ℕ) → i < length ts → take (i + 1) ts ≡ down_to (take i ts) (get_or ts i no_task)
front ts i lt = take_more ts i no_task lt

-- A front of valid rows is valid.
valid_take : (n : ℕ) (ts : List theory.Task) → All Valid ts → All Valid (take n ts)
valid_take zero ts v = tt
valid_take (suc n) [] v = tt
valid_take (suc n) (t ∷ ts) v = (v.0, valid_take n ts v.1)

-- So are the rows down to the one at the place i.
pub valid_front : (ts : List theory.Task) (i : ℕ) → All Valid ts → i < length ts → All Valid (down_to (take i ts) (get_or ts i no_task))
valid_front ts i v lt = subst (All Valid) (front ts i lt) (valid_take (i + 1) ts v)

-- The search of any row under hi may begin at d and the cost of its own job.
abbrev pub Begins : ℕ → List theory.Task → ℕ → Type 0
Begins f hi d = (i : theory.Task) → Valid i → NoneBelow f hi i (d + cost f i)

-- Under no rows, the search of a row begins at the cost of its job.
pub begins_first : (f : ℕ) → Begins f [] 0
begins_first f i v q m lt =
    let all = valid_down [] i tt v in
    omega (arith, asks_a_job f i q v (point_bounds [] i q all m).0)

-- With the load of the row at the place i, the loads are those down to it.
pub loads_down : (f : ℕ) (ts : List theory.Task) (i : ℕ) (ls all : List Load) (t : theory.Task) (l : Load) → i < length ts → get_or ts i no_task ≡ t →
    Loads f (take i ts) ls → LoadOf f t l → all ≡ ls ++ (l ∷ []) → Loads f (take (i + 1) ts) all
loads_down f ts i ls all t l lt is h of e =
    rw (e, front ts i lt, is) (loads_more f (take i ts) ls t l h of)

-- With the answer of the row at the place i, the rows down to it have theirs.
pub answered_down : (f : ℕ) (ts : List theory.Task) (i : ℕ) (found all : List (ℕ × ℕ)) (a : ℕ × ℕ) → length found ≡ i → Answered f ts i found →
    answer f (take i ts) (get_or ts i no_task) ≡ Some a → all ≡ found ++ (a ∷ []) → Answered f ts (i + 1) all
answered_down f ts i found all a many h here e =
    below_more (λ k. answer f (take k ts) (get_or ts k no_task) ≡ Some (get_or all k (0, 0))) i
    (λ k lt. h k lt ∙ ap Some (sym (ap (λ (l : List (ℕ × ℕ)). get_or l k (0, 0)) e ∙ get_or_append_left found (a ∷ []) (0, 0) k (omega arith))))
    (here ∙ ap Some (sym (ap (λ (l : List (ℕ × ℕ)). get_or l i (0, 0)) e ∙ get_or_push found a (0, 0) i many)))

-- What one step of the search shows, from t to the point p with the demand d.
pub record Stepped (f : ℕ) (hi : List theory.Task) (i : theory.Task) (t p d : ℕ) : Type 0 where
  pub on : t ≤ p
  pub in_time : p ≤ i.deadline
  pub ends : d ≤ p → answer f hi i ≡ Some (p, d)
  pub goes_on : p < d → NoneBelow f hi i d

-- The row at the place i.
module _ (f : ℕ) (ts : List theory.Task) (i : ℕ) (hf : 1 ≤ f) (v : All Valid ts) (lt : i < length ts) where
  -- Where the row above has its answer, the search of the next one begins at the demand there.
  pub begins_next : (p d : ℕ) → answer f (take i ts) (get_or ts i no_task) ≡ Some (p, d) → Begins f (take (i + 1) ts) d
  begins_next p d e j vj =
      subst (λ (l : List theory.Task). NoneBelow f l j (d + cost f j)) (sym (front ts i lt))
      (from_above f (take i ts) (get_or ts i no_task) j p d hf (valid_down (down_to (take i ts) (get_or ts i no_task)) j (valid_front ts i v lt) vj) e)

  -- A step of the search over the loads down to the row is one over the rows.
  stepped : (ls : List Load) → Loads f (take (i + 1) ts) ls → (t p d : ℕ) → 1 ≤ t → t ≤ (get_or ts i no_task).deadline →
      p ≡ next ls (get_or ts i no_task).deadline t → d ≡ asked ls t → NoneBelow f (take i ts) (get_or ts i no_task) t →
      Stepped f (take i ts) (get_or ts i no_task) t p d
  stepped ls same t p d some low ep ed none =
      let x = get_or ts i no_task in
      let up = take i ts in
      let rows = down_to up x in
      let all = valid_front ts i v lt in
      let ep' : p ≡ next_point rows x.deadline t = ep ∙ next_is f (take (i + 1) ts) ls x.deadline t same ∙ ap (λ (l : List theory.Task). next_point l x.deadline t) (front ts i lt) in
      let ed' : d ≡ demand f rows t = ed ∙ asked_is f (take (i + 1) ts) ls t same ∙ ap (λ (l : List theory.Task). demand f l t) (front ts i lt) in
      let q = next_point rows x.deadline t in
      let on = next_from up x t all low in
      let there : demand f rows q ≡ d = omega (arith, demand_mono f rows t q all on, next_asks_no_more f rows x.deadline t q all (omega arith)) in
      record {
        on = omega arith;
        in_time = omega (arith, next_last up x t);
        ends = λ h. found f up x t all some none (omega arith) ∙ ap₂ (λ (a b : ℕ). Some (a, b)) (sym ep') there;
        goes_on = λ h. subst (NoneBelow f up x) there (jump f up x t all none (omega arith));
      }

  -- The same for the row as the code has it.
  pub stepped_at : (x : theory.Task) → get_or ts i no_task ≡ x → (ls : List Load) → Loads f (take (i + 1) ts) ls → (t p d : ℕ) → 1 ≤ t → t ≤ x.deadline →
      p ≡ next ls x.deadline t → d ≡ asked ls t → NoneBelow f (take i ts) x t → Stepped f (take i ts) x t p d
  stepped_at x is =
      subst (λ (y : theory.Task). (ls : List Load) → Loads f (take (i + 1) ts) ls → (t p d : ℕ) → 1 ≤ t → t ≤ y.deadline →
      p ≡ next ls y.deadline t → d ≡ asked ls t → NoneBelow f (take i ts) y t → Stepped f (take i ts) y t p d) is stepped

-- The first i rows pass at level f: these are their answers and their loads, and the search of the next row begins at `ahead`.
pub record RowsPass (f : ℕ) (ts : List theory.Task) (i ahead : ℕ) (answers : List Answer) (loads : List Load) : Type 0 where
  pub small : ahead < 2 ^ 46
  pub answers_long : length answers ≡ i
  pub loads_long : length loads ≡ i
  pub answered : Answered f ts i (map point_demand answers)
  pub loaded : Loads f (take i ts) loads
  pub begins : Begins f (take i ts) ahead

-- Before the first row.
pub no_rows : (f : ℕ) (ts : List theory.Task) → RowsPass f ts 0 0 [] []
no_rows f ts = record {
  small = lit< tt;
  answers_long = refl;
  loads_long = refl;
  answered = below_none _;
  loaded = tt;
  begins = begins_first f;
}

-- One more row passes.
pub one_row_more : (f : ℕ) (ts : List theory.Task) (i ahead : ℕ) (answers : List Answer) (loads : List Load) (a : Answer) (t : theory.Task) (l : Load) →
    RowsPass f ts i ahead answers loads → 1 ≤ f → All Valid ts → i < length ts → get_or ts i no_task ≡ t → LoadOf f t l → a.demand < 2 ^ 46 →
    answer f (take i ts) t ≡ Some (point_demand a) → RowsPass f ts (i + 1) a.demand (answers ++ (a ∷ [])) (loads ++ (l ∷ []))
one_row_more f ts i ahead answers loads a t l rows some valid lt is of small ends =
    let here : answer f (take i ts) (get_or ts i no_task) ≡ Some (point_demand a) = ap (answer f (take i ts)) is ∙ ends in
    record {
      small = small;
      answers_long = omega (arith, length-append answers (a ∷ []), rows.answers_long);
      loads_long = omega (arith, length-append loads (l ∷ []), rows.loads_long);
      answered =
          answered_down f ts i (map point_demand answers) (map point_demand (answers ++ (a ∷ []))) (point_demand a)
          (length-map answers point_demand ∙ rows.answers_long) rows.answered here (map-append point_demand answers (a ∷ []));
      loaded = loads_down f ts i loads (loads ++ (l ∷ [])) t l lt is rows.loaded of refl;
      begins = begins_next f ts i some valid lt a.point a.demand here;
    }

-- A step of the search of the row behind them, over their loads and its own.
pub row_step : (f : ℕ) (ts : List theory.Task) (i ahead : ℕ) (answers : List Answer) (loads all : List Load) (t : theory.Task) (l : Load) →
    RowsPass f ts i ahead answers loads → 1 ≤ f → All Valid ts → i < length ts → get_or ts i no_task ≡ t → LoadOf f t l → all ≡ loads ++ (l ∷ []) →
    (from p d : ℕ) → 1 ≤ from → from ≤ t.deadline → p ≡ next all t.deadline from → d ≡ asked all from → NoneBelow f (take i ts) t from →
    Stepped f (take i ts) t from p d
row_step f ts i ahead answers loads all t l rows some valid lt is of e =
    stepped_at f ts i some valid lt t is all (loads_down f ts i loads all t l lt is rows.loaded of e)

-- Where no point of the row behind them passes, the level does not pass, and this is the first row that fails.
pub row_fails : (f : ℕ) (ts : List theory.Task) (i ahead : ℕ) (found : List Answer) (loads : List Load) (t : theory.Task) (from : ℕ) →
    RowsPass f ts i ahead found loads → All Valid ts → i < length ts → get_or ts i no_task ≡ t → NoneBelow f (take i ts) t from → t.deadline < from →
    (answers f [] ts ≡ None) × (first_failing f ts ≡ length found + 1)
row_fails f ts i ahead found loads t from rows valid lt is none past =
    let none' : NoneBelow f (take i ts) (get_or ts i no_task) from = rw is none in
    let past' : (get_or ts i no_task).deadline < from = omega (arith, ap (λ (x : theory.Task). x.deadline) is) in
    let fails = first_fails f ts i (map point_demand found) lt rows.answered (exhausted f (take i ts) (get_or ts i no_task) from (valid_front ts i valid lt) none' past') in
    (fails.0, omega (arith, fails.1, rows.answers_long))

-- Where all rows pass, the level passes.
pub all_pass : (f : ℕ) (ts : List theory.Task) (i ahead : ℕ) (found : List Answer) (loads : List Load) → RowsPass f ts i ahead found loads → i ≡ length ts →
    answers f [] ts ≡ Some (map point_demand found)
all_pass f ts i ahead found loads rows end =
    all_answered f ts (map point_demand found) (λ k lt. rows.answered k (omega arith)) (omega (arith, length-map found point_demand, rows.answers_long))
