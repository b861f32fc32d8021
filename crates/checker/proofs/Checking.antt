-- The verdict on the sites of a program is the verdict on its term.
use Rattle.std.proofs.Common.{◌≡◌, ℕ, zero, suc, ◌<◌, ◌≤◌, true, eqb, ◌↔◌, List, [], ◌∷◌, length, get_or, None, Ok, Err, Result, refl, sym, ap, inl, inr, arith, eq-eqb}
use Rattle.std.proofs.lemmas.Bool.{cases_order}
use Rattle.std.proofs.lemmas.List.{length-map}
use Rattle.terms.specs.Term.{Term, size}
use Rattle.terms.proofs.Forests.{length-flat}
use Rattle.theory.specs.Acceptance.{Accepted}
use Rattle.sheet.specs.Sheet.{times}
use Rattle.sheet.specs.Reading.{term_of, lines_of}
use Rattle.sheet.specs.declared.program.Program.{Program}
use Rattle.sheet.specs.declared.refusal.Rule.{Rule}
use Rattle.sheet.specs.declared.refusal.Rule.TheVariants.{Form, Size, Part, Unbound as Rule-Unbound, Misused as Rule-Misused, Shut as Rule-Shut, Repeated as Rule-Repeated}
use Rattle.sheet.specs.declared.refusal.Refusal.{Refusal}
use Rattle.checker.specs.Faults.{Unbound, Misused, Shut, Repeated, Nowhere}
use Rattle.checker.specs.Verdict.{Breaks, Decided}
use Rattle.checker.specs.Sites.{sites}
use Rattle.checker.specs.Found.{Found, UnboundSite, ShutSite}
use Rattle.checker.specs.Counts.{MisuseSite}
use Rattle.checker.specs.Firsts.{RepeatSite}
use Rattle.checker.specs.Judged.{BreaksSites, Judged}
use Rattle.checker.proofs.Finding.{Shown, nowhere, least}
use Rattle.checker.proofs.Showing.{unbound-shown, shut_shown}
use Rattle.checker.proofs.Wires.{repeat_shown}
use Rattle.checker.proofs.Uses.{misuse_shown}
use Rattle.checker.proofs.Accepting.{Distinct, Faultless, faultless_is_accepted}

module _ (t : Term) (lines : List ℕ) (long : length lines ≡ size t) where
  unbound-here : Shown (Unbound t) (UnboundSite (sites [] 0 0 t)) (length lines)
  unbound-here = rw long (unbound-shown t)

  misused-here : Shown (Misused t) (MisuseSite (sites [] 0 0 t)) (length lines)
  misused-here = rw long (misuse_shown t)

  shut-here : Shown (Shut t) (ShutSite (sites [] 0 0 t)) (length lines)
  shut-here = rw long (shut_shown t)

  repeated-here : Shown (Repeated t lines) (RepeatSite (sites [] 0 0 t) lines) (length lines)
  repeated-here = rw long (repeat_shown t lines)

  no_unbound : Found (UnboundSite (sites [] 0 0 t)) lines None → Nowhere (Unbound t)
  no_unbound f = nowhere _ _ lines unbound-here f

  no_misused : Found (MisuseSite (sites [] 0 0 t)) lines None → Nowhere (Misused t)
  no_misused f = nowhere _ _ lines misused-here f

  no_shut : Found (ShutSite (sites [] 0 0 t)) lines None → Nowhere (Shut t)
  no_shut f = nowhere _ _ lines shut-here f

  no_repeated : Found (RepeatSite (sites [] 0 0 t) lines) lines None → Nowhere (Repeated t lines)
  no_repeated f = nowhere _ _ lines repeated-here f

  breaks-term : (rule : Rule) (l : ℕ) → BreaksSites (sites [] 0 0 t) lines rule l → Breaks t lines rule l
  breaks-term Form l j = j
  breaks-term Size l j = j
  breaks-term Part l j = j
  breaks-term Rule-Unbound l j = least _ _ lines l unbound-here j
  breaks-term Rule-Misused l j = (no_unbound j.0, least _ _ lines l misused-here j.1)
  breaks-term Rule-Shut l j = (no_unbound j.0, no_misused j.1, least _ _ lines l shut-here j.2)
  breaks-term Rule-Repeated l j = (no_unbound j.0, no_misused j.1, no_shut j.2, least _ _ lines l repeated-here j.3)

-- A fault at some node is against the derivation.
faulty : (t : Term) (lines : List ℕ) (rule : Rule) (l : ℕ) → Breaks t lines rule l → Faultless t lines → ⊥
faulty t lines Form l b f = b
faulty t lines Size l b f = b
faulty t lines Part l b f = b
faulty t lines Rule-Unbound l b f = f.0 b.node b.breaks
faulty t lines Rule-Misused l b f = f.1 b.1.node b.1.breaks
faulty t lines Rule-Shut l b f = f.2 b.2.node b.2.breaks
faulty t lines Rule-Repeated l b f = f.3 b.3.node b.3.breaks

-- A number that stands at two places stands twice.
times_one : (xs : List ℕ) (n : ℕ) → n < length xs → 1 ≤ times (get_or xs n 0) xs
times_one [] n h = absurd (omega arith)
times_one (x ∷ xs) zero h = rw (eq-eqb x x refl) (omega arith)
times_one (x ∷ xs) (suc n) h = omega (arith, times_one xs n (omega arith))

times_two : (xs : List ℕ) (m n : ℕ) → m < n → n < length xs → get_or xs m 0 ≡ get_or xs n 0 → 2 ≤ times (get_or xs n 0) xs
times_two [] m n l h e = absurd (omega arith)
times_two (x ∷ xs) m zero l h e = absurd (omega arith)
times_two (x ∷ xs) zero (suc n) l h e =
    let q : eqb (get_or xs n 0) x ≡ true = eq-eqb (get_or xs n 0) x (sym e) in
    rw q (omega (arith, times_one xs n (omega arith)))
times_two (x ∷ xs) (suc m) (suc n) l h e = omega (arith, times_two xs m n (omega arith) (omega arith) e)

distinct : (xs : List ℕ) → ((k : ℕ) → times k xs ≤ 1) → Distinct xs
distinct xs h m n lm ln e = elim (cases_order m n) [
  | inl z ↦ z
  | inr (inl z) ↦ absurd (omega (arith, h (get_or xs n 0), times_two xs m n z ln e))
  | inr (inr z) ↦ absurd (omega (arith, h (get_or xs m 0), times_two xs n m z lm (sym e)))
]

pub judged_decided : (p : Program) (r : Result (Unit {0}) Refusal) → Judged (sites [] 0 0 (term_of p)) (lines_of p) r → Decided r p
judged_decided p r j = go r j
  where
    long : length (lines_of p) ≡ size (term_of p)
    long = omega (arith, ap length p.tree, length-flat (term_of p), length-map p.table.items (λ x. x.node), length-map p.table.items (λ x. x.line))

    both : Faultless (term_of p) (lines_of p) ↔ Accepted (term_of p)
    both = faultless_is_accepted (term_of p) (lines_of p) (distinct (lines_of p) p.apart) long

    go : (r : Result (Unit {0}) Refusal) → Judged (sites [] 0 0 (term_of p)) (lines_of p) r → Decided r p
    go (Ok x) j = both.0 (no_unbound (term_of p) (lines_of p) long j.0, no_misused (term_of p) (lines_of p) long j.1, no_shut (term_of p) (lines_of p) long j.2, no_repeated (term_of p) (lines_of p) long j.3)
    go (Err f) j =
        let b = breaks-term (term_of p) (lines_of p) long f.rule f.line j in
        record { breaks = b; underivable = λ a. faulty (term_of p) (lines_of p) f.rule f.line b (both.1 a) }
