-- Marks on used lines, one part after another.
use Rattle.std.proofs.Common.{◌≡◌, ℕ, ◌+◌, ◌-◌, ◌<◌, ◌≤◌, Bool, true, false, ltb, List, [], ◌∷◌, ◌++◌, length, get_or, take, drop, set, Some, None, Option, MatchOption, sym, refl, ap, ◌∙◌, subst, inl, inr, append-nil, arith, length-append, ltb-true, lt-ltb}
use Rattle.std.proofs.lemmas.Bool.{ltb-false, cases_eq, cases_lt}
use Rattle.std.proofs.lemmas.List.{get_or_append_left, get_or-append_right, get_or-set_same, get_or-set_other, length-set, take-append-drop, drop_more, get_or-take, get_or-drop, length-take-le, length-drop}
use Rattle.std.specs.Borrow.{Bor}
use Rattle.std.specs.List.{AllWithin, HoldsAt}
use Rattle.std.specs.Option.{option_map}
use Rattle.sheet.specs.Sheet.{times}
use Rattle.sheet.specs.Uses.{Marks, Fits, FirstUnused}
use Rattle.sheet.proofs.Times.{mark_same, mark_other, times-append}
use Rattle.sheet.proofs.Writing.{each_append}

pub marked_once : (us : List Bool) (ws : List ℕ) (p : ℕ) → Marks us ws → p < length us → get_or us p false ≡ true → 1 ≤ times p ws
marked_once us ws p m l e = ltb-true 0 (times p ws) (sym (m p l) ∙ e)

pub unmarked_none : (us : List Bool) (ws : List ℕ) (p : ℕ) → Marks us ws → p < length us → get_or us p false ≡ false → times p ws ≡ 0
unmarked_none us ws p m l e = omega (arith, ltb-false 0 (times p ws) (sym (m p l) ∙ e))

pub starts : (n : ℕ) (ws : List ℕ) → ((p : ℕ) → times p ws ≤ 1) → Fits n ws []
starts n ws h = record { earlier = tt; once = λ p. subst (λ (xs : List ℕ). times p xs ≤ 1) (sym (append-nil ws)) (h p) }

-- One part more.
pub fits_more : (n : ℕ) (ws qs : List ℕ) (p : ℕ) → Fits n ws qs → p < n → times p (ws ++ qs) ≡ 0 → Fits n ws (qs ++ (p ∷ []))
fits_more n ws qs p f l z = record {
  earlier = each_append (λ q. q < n) qs (p ∷ []) f.earlier (l, tt);
  once = λ q. elim (cases_eq q p) [
    | inl e ↦
        let y : times q (ws ++ qs) ≡ 0 = ap (λ x. times x (ws ++ qs)) e ∙ z in
        omega (arith, times-append q ws (qs ++ (p ∷ [])), times-append q qs (p ∷ []), times-append q ws qs, mark_same q p e)
    | inr e ↦ omega (arith, f.once q, times-append q ws (qs ++ (p ∷ [])), times-append q qs (p ∷ []), times-append q ws qs, mark_other q p e)
  ];
}

pub marks_more : (us : List Bool) (ws : List ℕ) (p : ℕ) → Marks us ws → Marks (set us p true) (ws ++ (p ∷ []))
marks_more us ws p m q l =
    let n : length (set us p true) ≡ length us = length-set us p true in
    elim (cases_eq q p) [
      | inl e ↦
          let k : p < length us = omega arith in
          ap (λ i. get_or (set us p true) i false) e ∙ get_or-set_same us p true false k ∙ sym (lt-ltb 0 (times q (ws ++ (p ∷ []))) (omega (arith, times-append q ws (p ∷ []), mark_same q p e)))
      | inr e ↦
          get_or-set_other us p q true false e ∙ m q (omega arith) ∙ ap (λ i. ltb 0 i) (omega (arith, times-append q ws (p ∷ []), mark_other q p e))
    ]

pub repeated : (n : ℕ) (ws ps : List ℕ) (i : ℕ) → i < length ps → 1 ≤ times (get_or ps i 0) (ws ++ take i ps) → Fits n ws ps → ⊥
repeated n ws ps i l h f =
    let p : ℕ = get_or ps i 0 in
    let e : ps ≡ take i ps ++ (p ∷ drop (i + 1) ps) = sym (take-append-drop i ps) ∙ ap (λ xs. take i ps ++ xs) (drop_more ps i 0 l) in
    let t : times p ps ≡ times p (take i ps) + (1 + times p (drop (i + 1) ps)) =
    ap (times p) e ∙ omega (arith, times-append p (take i ps) (p ∷ drop (i + 1) ps), mark_same p p refl) in
    omega (arith, f.once p, times-append p ws ps, times-append p ws (take i ps))

-- The mark that `get` finds.
pub seen : (us : List Bool) (p : ℕ) (r : Option (Bor Bool)) (x : Bor Bool) → r ≡ Some x → MatchOption r (length us ≤ p) (λ y. (p < length us) × HoldsAt (λ z. y.now ≡ z) us p) → (p < length us) × (get_or us p false ≡ x.now)
seen us p r x e h = let m = subst (λ (o : Option (Bor Bool)). MatchOption o (length us ≤ p) (λ y. (p < length us) × HoldsAt (λ z. y.now ≡ z) us p)) e h in (m.0, sym (m.1 false))

-- One line more, which is not used yet.
pub marks_push : (us : List Bool) (ws : List ℕ) → Marks us ws → times (length us) ws ≡ 0 → Marks (us ++ (false ∷ [])) ws
marks_push us ws m z p l = elim (cases_lt p (length us)) [
  | inl h ↦ get_or_append_left us (false ∷ []) false p h ∙ m p h
  | inr h ↦
      let e : p ≡ length us = omega (arith, length-append us (false ∷ [])) in
      let k : p - length us ≡ 0 = omega arith in
      let t : times p ws ≡ 0 = ap (λ i. times i ws) e ∙ z in
      get_or-append_right us (false ∷ []) (length us) p false refl h ∙ ap (λ i. get_or (false ∷ []) i false) k ∙ sym (ap (λ i. ltb 0 i) t)
]

-- The marks without the first and the last.
abbrev pub inner : List Bool → List Bool
inner us = take (length us - 1 - 1) (drop 1 us)

pub first_unmarked : (us : List Bool) (ws : List ℕ) → Marks us ws → (r : Option ℕ) → MatchOption r (AllWithin (λ u. u ≡ true) (inner us) 0 (length (inner us))) (λ i. (i < length (inner us)) × HoldsAt (λ u. u ≡ false) (inner us) i × AllWithin (λ u. u ≡ true) (inner us) 0 i) → FirstUnused (length us - 1) ws (option_map (λ i. i + 1) r)
first_unmarked us ws m r h = go r h
  where
    long : length (inner us) ≡ length us - 1 - 1
    long = omega (arith, length-take-le (length us - 1 - 1) (drop 1 us) (omega (arith, length-drop 1 us)), length-drop 1 us)

    at : (k : ℕ) → k < length (inner us) → get_or (inner us) k false ≡ get_or us (k + 1) false
    at k l = let e : 1 + k ≡ k + 1 = omega arith in get_or-take (length us - 1 - 1) (drop 1 us) k false (omega (arith, long)) ∙ get_or-drop 1 us k false ∙ ap (λ i. get_or us i false) e

    used : (j : ℕ) → 1 ≤ j → j - 1 < length (inner us) → get_or (inner us) (j - 1) false ≡ true → 1 ≤ times j ws
    used j o l e = let k : j - 1 + 1 ≡ j = omega arith in marked_once us ws j m (omega (arith, long)) (sym (ap (λ i. get_or us i false) k) ∙ sym (at (j - 1) l) ∙ e)

    go : (r : Option ℕ) → MatchOption r (AllWithin (λ u. u ≡ true) (inner us) 0 (length (inner us))) (λ i. (i < length (inner us)) × HoldsAt (λ u. u ≡ false) (inner us) i × AllWithin (λ u. u ≡ true) (inner us) 0 i) → FirstUnused (length us - 1) ws (option_map (λ i. i + 1) r)
    go None h = λ j o l. used j o (omega (arith, long)) (h (j - 1) false (omega arith) (omega (arith, long)))
    go (Some i) h = record {
      low = omega arith;
      high = omega (arith, long, h.0);
      free = unmarked_none us ws (i + 1) m (omega (arith, long, h.0)) (sym (at i h.0) ∙ h.1 false);
      first = λ j o l. used j o (omega (arith, long, h.0)) (h.2 (j - 1) false (omega arith) (omega arith));
    }
