-- One more call at the end of a list, and the states that lists of calls lead to.
use Rattle.std.proofs.Common.{◌≡◌, ℕ, ◌+◌, ◌<◌, ◌≤◌, List, [], ◌∷◌, ◌++◌, length, get_or, take, drop, set, sym, refl, ap, ap₂, ◌∙◌, subst, arith}
use mathlib.Core.Logic.{∥∥₁_elim, ∥∥₁_map}
use native.Mathlib.Nat.{ℕ_set}
use Rattle.std.specs.List.{AllByRecursion}
use Rattle.std.proofs.ByRecursion.{All-push}
use Rattle.std.proofs.lemmas.List.{map_push, take_all, take_more, take_more_set, drop-set-lt, drop-drop}
use Rattle.pattern.specs.Policy.{Meaning, Lawful}
use Rattle.runner.specs.Boards.{state}
use Rattle.runner.specs.Calls.{Action, OfBytes, action, actions}
use Rattle.runner.specs.Promise.{Promise}
use Rattle.runner.specs.Reached.{CallsReach, ReachedIsOnTime, PromiseGoesOn, RulesGoOn}
use Rattle.runner.specs.Rules.{State, made, reply, next, run, run_from, replies, replies_from, tick_answer}
use Rattle.runner.specs.declared.call.Answer.{Answer}
use Rattle.runner.specs.declared.call.Call.{Call}
use Rattle.runner.specs.declared.runner.Runner.{Runner}
use Rattle.runner.proofs.Kept.{making_kept, calls_kept}
use Rattle.runner.proofs.Promised.{tick_on_time, keeps_its_promise}

module _ (policy : Meaning) where
  pub run_push : (state : State) (calls : List Action) (call : Action) →
      run_from policy state (calls ++ (call ∷ [])) ≡ next policy (run_from policy state calls) call
  unfolding run_from
  run_push state [] call = refl
  run_push state (first ∷ calls) call = run_push (next policy state first) calls call

  pub replies_push : (state : State) (calls : List Action) (call : Action) →
      replies_from policy state (calls ++ (call ∷ [])) ≡ replies_from policy state calls ++ (reply policy (run_from policy state calls) call ∷ [])
  unfolding run_from replies_from
  replies_push state [] call = refl
  replies_push state (first ∷ calls) call = ap (λ rest. reply policy state first ∷ rest) (replies_push (next policy state first) calls call)

  pub run_none : run policy [] ≡ made
  unfolding run_from
  run_none = refl

  pub replies_none : replies policy [] ≡ []
  unfolding replies_from
  replies_none = refl

  -- one more of the code's calls
  module _ (calls : List Call) (i : ℕ) (d : Call) (here : i < length calls) where
    one_more : actions (take (i + 1) calls) ≡ actions (take i calls) ++ (action (get_or calls i d) ∷ [])
    one_more = ap actions (take_more calls i d here) ∙ map_push action (take i calls) (get_or calls i d)

    pub run_more : run policy (actions (take (i + 1) calls)) ≡ next policy (run policy (actions (take i calls))) (action (get_or calls i d))
    run_more = ap (run policy) one_more ∙ run_push made (actions (take i calls)) (action (get_or calls i d))

    pub replies_more : replies policy (actions (take (i + 1) calls))
        ≡ replies policy (actions (take i calls)) ++ (reply policy (run policy (actions (take i calls))) (action (get_or calls i d)) ∷ [])
    replies_more = ap (replies policy) one_more ∙ replies_push made (actions (take i calls)) (action (get_or calls i d))

    pub bytes_more : AllByRecursion OfBytes (actions (take i calls)) → OfBytes (action (get_or calls i d)) → AllByRecursion OfBytes (actions (take (i + 1) calls))
    bytes_more before now = subst (AllByRecursion OfBytes) (sym one_more) (All-push OfBytes (actions (take i calls)) (action (get_or calls i d)) before now)

-- These calls were made by a runner with the given policy, and answered by the first n answers; the answers past them are as before.
pub record Made {P : Type 0} (meaning : P → Meaning) (given : P) (runner : Runner P) (calls : List Call) (n : ℕ) (before answers : List Answer) : Type 0 where
  pub policy : runner.policy ≡ given
  pub left : state runner.board ≡ run (meaning given) (actions calls)
  pub said : take n answers ≡ replies (meaning given) (actions calls)
  pub rest : drop n answers ≡ drop n before
  pub bytes : AllByRecursion OfBytes (actions calls)

-- a new runner has made no calls
pub none_made : {P : Type 0} (meaning : P → Meaning) (runner : Runner P) (answers : List Answer) → state runner.board ≡ made → Made meaning runner.policy runner [] 0 answers answers
none_made meaning runner answers new = record {
  policy = refl;
  left = new ∙ sym (run_none (meaning runner.policy));
  said = sym (replies_none (meaning runner.policy));
  rest = refl;
  bytes = tt;
}

-- one call more
pub made_more : {P : Type 0} (meaning : P → Meaning) (given : P) (runner after : Runner P) (calls : List Call) (i : ℕ) (call : Call) (before answers : List Answer) (answer : Answer)
    → i < length calls → i < length answers → call ≡ get_or calls i call → Made meaning given runner (take i calls) i before answers
    → answer ≡ reply (meaning runner.policy) (state runner.board) (action call) → state after.board ≡ next (meaning runner.policy) (state runner.board) (action call)
    → after.policy ≡ runner.policy → OfBytes (action call)
    → Made meaning given after (take (i + 1) calls) (i + 1) before (set answers i answer)
made_more meaning given runner after calls i call before answers answer here room is so_far said left kept bytes =
    let policy : Meaning = meaning given in
    let state' : State = run policy (actions (take i calls)) in
    let named : action call ≡ action (get_or calls i call) = ap action is in
    record {
      policy = kept ∙ so_far.policy;
      left = left ∙ ap₂ (λ p s. next (meaning p) s (action call)) so_far.policy so_far.left ∙ ap (next policy state') named ∙ sym (run_more policy calls i call here);
      said = take_more_set answers i answer room
          ∙ ap₂ (λ front x. front ++ (x ∷ [])) so_far.said
          (said ∙ ap₂ (λ p s. reply (meaning p) s (action call)) so_far.policy so_far.left ∙ ap (reply policy state') named)
          ∙ sym (replies_more policy calls i call here);
      rest = drop-set-lt (i + 1) answers i answer (omega arith) ∙ sym (drop-drop 1 i answers) ∙ ap (drop 1) so_far.rest ∙ drop-drop 1 i before;
      bytes = bytes_more policy calls i call here so_far.bytes (subst OfBytes named bytes);
    }

pub calls_reach : CallsReach
calls_reach = record {
  making = λ policy. ∣ ([], tt, run_none policy) ∣₁;
  calls = λ policy state call here reached.
      ∥∥₁_map reached (λ r. (
        r.0 ++ (call ∷ []),
        All-push OfBytes r.0 call r.1 here,
        run_push policy made r.0 call ∙ ap (λ s. next policy s call) r.2,
      ));
}

pub reached_is_on_time : ReachedIsOnTime
reached_is_on_time policy lawful state reached =
    ∥∥₁_elim reached (ℕ_set (tick_answer policy state).late 0)
    (λ r. subst (λ s. (tick_answer policy s).late ≡ 0) r.2 (tick_on_time policy _ _ (calls_kept policy lawful r.0 r.1 [] made (making_kept policy))))

pub rules_go_on : RulesGoOn
rules_go_on policy lawful state call bytes calls all reached =
    let kept = keeps_its_promise policy lawful (calls ++ (call ∷ [])) (All-push OfBytes calls call all bytes) in
    let answers = replies_push policy made calls call ∙ ap (λ s. replies policy calls ++ (reply policy s call ∷ [])) reached in
    let after = run_push policy made calls call ∙ ap (λ s. next policy s call) reached in
    subst (λ s. Promise policy (calls ++ (call ∷ [])) (replies policy calls ++ (reply policy state call ∷ [])) s) after
    (subst (λ a. Promise policy (calls ++ (call ∷ [])) a (run policy (calls ++ (call ∷ [])))) answers kept)

-- so an answer and a state that are the rules' keep it going
pub goes_on : (policy : Meaning) → Lawful policy → (before : State) (call : Action) → OfBytes call → (answer : Answer) (after : State) →
    answer ≡ reply policy before call → after ≡ next policy before call → PromiseGoesOn policy before call answer after
goes_on policy lawful before call bytes answer after e f =
    subst (λ s. PromiseGoesOn policy before call answer s) (sym f)
    (subst (λ a. PromiseGoesOn policy before call a (next policy before call)) (sym e) (rules_go_on policy lawful before call bytes))

-- answers and a state that are the rules' keep the promise
pub kept_by : (policy : Meaning) → Lawful policy → (calls : List Action) → AllByRecursion OfBytes calls → (answers : List Answer) (state : State) →
    answers ≡ replies policy calls → state ≡ run policy calls → Promise policy calls answers state
kept_by policy lawful calls bytes answers state e f =
    subst (λ s. Promise policy calls answers s) (sym f)
    (subst (λ a. Promise policy calls a (run policy calls)) (sym e) (keeps_its_promise policy lawful calls bytes))

-- all calls that there is room for were made: the promise holds of them
pub all_made : {P : Type 0} (meaning : P → Meaning) (given : P) (runner : Runner P) (calls : List Call) (i n : ℕ) (before answers : List Answer)
    → Lawful (meaning given) → i ≡ n → length (take n calls) ≤ i → Made meaning given runner (take i (take n calls)) i before answers
    → Promise (meaning given) (actions (take n calls)) (take n answers) (state runner.board)
    × (drop n answers ≡ drop n before)
    × AllByRecursion OfBytes (actions (take n calls))
all_made meaning given runner calls i n before answers lawful end through made =
    let all : Made meaning given runner (take n calls) n before answers =
    subst (λ k. Made meaning given runner (take n calls) k before answers) end
    (subst (λ cs. Made meaning given runner cs i before answers) (take_all i (take n calls) through) made) in (
      kept_by (meaning given) lawful (actions (take n calls)) all.bytes (take n answers) (state runner.board) all.said all.left,
      all.rest,
      all.bytes,
    )
