-- One tick: the work left and ticks left of each task, and the steps of the rule in their order.
-- Assumes nothing.
use Rattle.std.specs.Prelude.{ℕ, zero, suc, ◌+◌, ◌-◌, Bool, false, cond, ◌&&◌, Some, None, Option, ◌==◌, nat_lt}
use Rattle.edf.specs.System.{System, is}

-- The work left (w) and the ticks left to the deadline (d) of each task's open job; a task with no work left has none open.
pub record Counters : Type 0 where
  pub w : ℕ → ℕ
  pub d : ℕ → ℕ

-- Step 1: a task with work left and no ticks left is late, and loses its work.
abbrev pub late : Counters → ℕ → Bool
late c i = nat_lt 0 (c.w i) && c.d i == 0

abbrev pub drop_late : Counters → Counters
drop_late c = record { w = λ i. cond (late c i) 0 (c.w i); d = c.d }

-- Step 2: a job released at tick n opens with all its work and ticks.
abbrev pub release : System → ℕ → Counters → Counters
release S n c = record {
  w = λ i. cond (S.releases i n) (S.work i) (c.w i);
  d = λ i. cond (S.releases i n) (S.deadline i) (c.d i);
}

-- Step 3: of the tasks with work left the one with the fewest ticks left is chosen, the lowest number first among equals ..
abbrev pub better : Counters → Option ℕ → ℕ → Option ℕ
better c None i = cond (nat_lt 0 (c.w i)) (Some i) None
better c (Some b) i = cond (nat_lt 0 (c.w i) && nat_lt (c.d i) (c.d b)) (Some i) (Some b)

-- (among the first n tasks)
abbrev pub choose : ℕ → Counters → Option ℕ
choose zero c = None
choose (suc n) c = better c (choose n c) n

-- .. and its work falls by 1.
abbrev pub serve : Option ℕ → Counters → Counters
serve o c = record { w = λ i. cond (is o i) (c.w i - 1) (c.w i); d = c.d }

abbrev pub ended : Option ℕ → Counters → Bool
ended None c = false
ended (Some k) c = c.w k == 0

-- Step 4: a task with work left loses one of its ticks left, and every other has none.
abbrev pub age : Counters → Counters
age c = record { w = c.w; d = λ i. cond (nat_lt 0 (c.w i)) (c.d i - 1) 0 }

-- Step 5: the position in a cycle of H ticks rises by 1, and at H it becomes 0.
abbrev pub move_on : (H position : ℕ) → ℕ
move_on H position = cond (position + 1 == H) 0 (position + 1)

-- What tick n answers, and the counters that it leaves.
pub record Answer : Type 0 where
  pub served : Option ℕ
  pub finished : Bool
  pub missed : ℕ → Bool
  pub left : Counters

unfoldable pub tick : System → ℕ → Counters → Answer
tick S n c =
    let o = release S n (drop_late c) in
    let k = choose S.count o in
    let s = serve k o in
    record { served = k; finished = ended k s; missed = late c; left = age s }
