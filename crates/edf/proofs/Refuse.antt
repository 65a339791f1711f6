-- The span that is found is the first, and the only one.
use Rattle.std.proofs.Common.{◌≡◌, ℕ, zero, suc, ◌-◌, ◌<◌, ◌≤◌, Bool, true, false, ltb, Some, None, Option, sym, refl, ⊎_elim, not-suc-le-zero, arith}
use Rattle.std.proofs.lemmas.Bool.{cases_lt, ltb-true, lt-ltb, and_parts, and_from, both_ways}
use Rattle.edf.specs.System.{System, span_work, Overloaded}
use Rattle.edf.specs.Refusal.{First, Span, overloads, start_below, ending_at, refused, RefusedIsFirst}
use Rattle.edf.specs.Timeliness.{MissNamesRefused}
use Rattle.edf.proofs.Miss.{first_miss}
use Rattle.edf.proofs.Below.{below_suc}

module _ (S : System) where
  overloads_true : (s e : ℕ) → overloads S s e ≡ true → Overloaded S s e
  overloads_true s e t =
      let p = and_parts (ltb s e) (ltb (e - s) (span_work S s e)) t in
      record { proper = ltb-true s e p.0; excess = ltb-true (e - s) (span_work S s e) p.1 }

  overloads_false : (s e : ℕ) → overloads S s e ≡ false → Overloaded S s e → ⊥
  overloads_false s e f o =
      both_ways (overloads S s e) f (and_from (ltb s e) (ltb (e - s) (span_work S s e)) (lt-ltb s e o.proper) (lt-ltb (e - s) (span_work S s e) o.excess))

  -- what the search for a start answers
  abbrev Last : ℕ → ℕ → Option ℕ → Type 0
  Last e n None = (s : ℕ) → s < n → Overloaded S s e → ⊥
  Last e n (Some s) = Overloaded S s e × ((s' : ℕ) → s' < n → Overloaded S s' e → s' ≤ s)

  start_last : (e n : ℕ) → Last e n (start_below S e n)
  unfolding start_below
  start_last e zero = λ s h. absurd (not-suc-le-zero h)
  start_last e (suc n) = at (overloads S n e) refl (start_below S e n) (start_last e n)
    where
      at : (b : Bool) → overloads S n e ≡ b → (o : Option ℕ) → Last e n o → Last e (suc n) (elim b [ true ↦ Some n | false ↦ o ])
      at true t o l = (overloads_true n e t, λ s h _. omega arith)
      at false f None l = below_suc (λ s. Overloaded S s e → ⊥) n l (overloads_false n e f)
      at false f (Some s) l = (l.0, below_suc (λ s'. Overloaded S s' e → s' ≤ s) n l.1 (λ o. absurd (overloads_false n e f o)))

  -- what the search for a span that ends at or before b answers
  abbrev Right : ℕ → Option Span → Type 0
  Right b None = (s e : ℕ) → e ≤ b → Overloaded S s e → ⊥
  Right b (Some x) = First S x.from x.to × (x.to ≤ b)

  refused_right : (b : ℕ) → Right b (refused S b)
  unfolding refused
  refused_right zero = λ s e h o. omega (arith, o.proper)
  refused_right (suc b) = at (refused S b) (refused_right b) (start_below S (suc b) (suc b)) (start_last (suc b) (suc b))
    where
      at : (x : Option Span) → Right b x → (o : Option ℕ) → Last (suc b) (suc b) o → Right (suc b) (elim x [ Some y ↦ Some y | None ↦ ending_at (suc b) o ])
      at (Some y) r o l = (r.0, omega (arith, r.1))
      at None r None l = λ s e h o. ⊎_elim (λ less. r s e (omega arith) o) (λ here. let z : e ≡ suc b = omega arith in l s (omega (arith, o.proper)) (rw z at o)) (cases_lt e (suc b))
      at None r (Some s) l = (
        record {
          overloaded = l.0;
          first_end = λ s' e o. ⊎_elim (λ less. absurd (r s' e (omega arith) o)) (λ h. h) (cases_lt e (suc b));
          last_start = λ s' o. l.1 s' (omega (arith, o.proper)) o;
        },
        omega arith,
      )

  same_first : (s e s' e' : ℕ) → First S s e → First S s' e' → (s ≡ s') × (e ≡ e')
  same_first s e s' e' f g =
      let same : e ≡ e' = omega (arith, f.first_end s' e' g.overloaded, g.first_end s e f.overloaded) in
      (omega (arith, f.last_start s' (rw (sym same) at g.overloaded), g.last_start s (rw same at f.overloaded)), same)

  only_right : (b : ℕ) (o p : Option Span) → Right b o → Right b p → o ≡ p
  only_right b None None r q = refl
  only_right b None (Some y) r q = absurd (r y.from y.to q.1 q.0.overloaded)
  only_right b (Some x) None r q = absurd (q x.from x.to r.1 r.0.overloaded)
  only_right b (Some x) (Some y) r q =
      let same = same_first x.from x.to y.from y.to r.0 q.0 in
      λ i. Some (record { from = same.0 i; to = same.1 i })

pub refused_is_first : RefusedIsFirst
refused_is_first = record {
  found = λ S b s e. (λ f. only_right S b (refused S b) (Some (record { from = s; to = e })) (refused_right S b) f, λ p. rw p at (refused_right S b));
  none = λ S b. (λ n. only_right S b (refused S b) None (refused_right S b) n, λ p. rw p at (refused_right S b));
}

pub first_exists : (S : System) (s e : ℕ) → Overloaded S s e → (s' : ℕ) × (e' : ℕ) × First S s' e'
first_exists S s e o = at (refused S e) refl
  where
    at : (x : Option Span) → refused S e ≡ x → (s' : ℕ) × (e' : ℕ) × First S s' e'
    at None r = absurd ((refused_is_first.none S e).1 r s e (omega arith) o)
    at (Some x) r = (x.from, x.to, ((refused_is_first.found S e x.from x.to).1 r).0)

pub miss_names_refused : MissNamesRefused
miss_names_refused S sound e late earlier = at (start_below S e e) refl (start_last S e e)
  where
    cause : ((s : ℕ) × Overloaded S s e) × ((s f : ℕ) → Overloaded S s f → e ≤ f)
    cause = (first_miss S sound e).0 (late, earlier)

    at : (o : Option ℕ) → start_below S e e ≡ o → Last S e e o → (s : ℕ) × (start_below S e e ≡ Some s) × First S s e
    at None r l = absurd (l cause.0.0 cause.0.1.proper cause.0.1)
    at (Some s) r l = (s, r, record { overloaded = l.0; first_end = cause.1; last_start = λ s' o. l.1 s' o.proper o })
