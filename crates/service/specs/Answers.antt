-- What a tick answers, as the terminal writes it. Assumes nothing.
use Rattle.std.specs.Prelude.{ℕ, ◌^◌, Bool, cond}
use Rattle.pattern.specs.Sum.{Sum}
use Rattle.edf.specs.Tick.{Answer}
use Rattle.service.specs.declared.ticks.TickAnswer.{TickAnswer}

-- The mask of the numbers below n that pass the test: bit i for number i.
abbrev pub mask : ℕ → (ℕ → Bool) → ℕ
mask n test = Sum n (λ i. cond (test i) (2 ^ i) 0)

-- The answer of a tick over n tasks.
abbrev pub answer_of : ℕ → Answer → TickAnswer
answer_of n a = record { served = a.served; finished = a.finished; late = mask n a.missed }
