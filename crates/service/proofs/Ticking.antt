-- The steps, one after the other, are the tick.
use Rattle.std.proofs.Common.{◌≡◌, ℕ, Bool, Option, ap, ◌∙◌, ap₂}
use Rattle.edf.specs.Earliest.{Earliest}
use Rattle.edf.specs.System.{System}
use Rattle.edf.specs.Tick.{Counters, late, drop_late, release, choose, serve, ended, age, tick}
use Rattle.service.specs.Answers.{mask, answer_of}
use Rattle.service.specs.declared.ticks.TickAnswer.{TickAnswer}

-- the counters after each step, whom the tick served, whether that used up its work, and the mask of the late
pub record Steps (S : System) (n : ℕ) (before : Counters) (served : Option ℕ) (finished : Bool) (missed : ℕ) (left : Counters) : Type 0 where
  pub opened : Counters
  pub worked : Counters
  pub releases : opened ≡ release S n (drop_late before)
  pub chooses : served ≡ choose S.count opened
  pub serves : worked ≡ serve served opened
  pub finishes : finished ≡ ended served worked
  pub ages : left ≡ age worked
  pub misses : missed ≡ mask S.count (late before)

module _ (S : System) (n : ℕ) (before : Counters) (served : Option ℕ) (finished : Bool) (missed : ℕ) (left : Counters)
    (steps : Steps S n before served finished missed left) where
  chosen : served ≡ choose S.count (release S n (drop_late before))
  chosen = steps.chooses ∙ ap (choose S.count) steps.releases

  worked_so : steps.worked ≡ serve (choose S.count (release S n (drop_late before))) (release S n (drop_late before))
  worked_so = steps.serves ∙ ap₂ serve chosen steps.releases

  pub tick_answers : ◌≡◌ {A = TickAnswer} (record { served = served; finished = finished; late = missed }) (answer_of S.count (tick S n before))
  unfolding tick
  tick_answers =
      let e = chosen in
      let f : finished ≡ (tick S n before).finished = steps.finishes ∙ ap₂ ended chosen worked_so in
      let m = steps.misses in
      λ t. record { served = e t; finished = f t; late = m t }

  pub tick_leaves : left ≡ (tick S n before).left
  unfolding tick
  tick_leaves = steps.ages ∙ ap age worked_so

  pub tick_serves_earliest : Earliest S.count steps.opened served → Earliest S.count (release S n (drop_late before)) served
  tick_serves_earliest first = rw steps.releases at first
