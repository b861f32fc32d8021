-- A table where terms stand, taken node by node.
use Rattle.std.proofs.Common.{◌≡◌, ℕ, ◌+◌, ◌-◌, ◌<◌, ◌≤◌, List, [], ◌∷◌, ◌++◌, length, get_or, drop, sym, refl, ap, ◌∙◌, append_assoc, append-nil, arith, length-append, length-drop}
use Rattle.std.proofs.lemmas.List.{drop_more}
use Rattle.terms.specs.Term.{Term, Terms, none, part, sizes, count}
use Rattle.terms.specs.Flat.{part_count, flat, flats, node, parts}
use Rattle.terms.specs.Parse.{term, HoldsTerm}
use Rattle.terms.specs.declared.Node.{Node}
use Rattle.terms.proofs.Forests.{join, length-flats, flat-node, count-parts, size-parts, flats-join, count-join, sizes-join}
use Rattle.checker.specs.Sites.{Forest}

pub sizes_of_flats : (ts : Terms) → count ts ≤ sizes ts
sizes_of_flats none = omega arith
sizes_of_flats (part t ts) = omega (arith, size-parts t, sizes_of_flats ts)

-- What is known of a table where the term t and then the terms us stand.
pub record Opened (xs : List Node) (at : ℕ) (t : Term) (us : Terms) : Type 0 where
  pub low : at < length xs
  pub here : (d : Node) → get_or xs at d ≡ node t
  pub next : Forest (drop (at + 1) xs) (join (parts t) us)
  pub fewer : count (join (parts t) us) ≡ count us + part_count (node t)
  pub long : sizes (part t us) ≡ 1 + sizes (join (parts t) us)

drop-low : (xs : List Node) (at : ℕ) (y : Node) (ys : List Node) → drop at xs ≡ y ∷ ys → at < length xs
drop-low xs at y ys e =
    let l : length (drop at xs) ≡ 1 + length ys = ap length e ∙ omega arith in
    omega (arith, length-drop at xs, l)

head_is : (a b : Node) (xs ys : List Node) → a ∷ xs ≡ b ∷ ys → (a ≡ b) × (xs ≡ ys)
head_is a b xs ys e = (cc, cc)

pub opened : (xs : List Node) (at : ℕ) (t : Term) (us : Terms) → Forest (drop at xs) (part t us) → Opened xs at t us
opened xs at t us f =
    let e : drop at xs ≡ node t ∷ (flats (join (parts t) us) ++ f.rest) =
    f.is ∙ rw (flat-node t, flats-join (parts t) us, append_assoc) refl in
    let low : at < length xs = drop-low xs at (node t) (flats (join (parts t) us) ++ f.rest) e in
    let both = λ (d : Node). head_is (get_or xs at d) (node t) (drop (at + 1) xs) (flats (join (parts t) us) ++ f.rest) (sym (drop_more xs at d low) ∙ e) in
    record {
      low = low;
      here = λ d. (both d).0;
      next = record { rest = f.rest; is = (both (node t)).1 };
      fewer = omega (arith, count-join (parts t) us, count-parts t);
      long = omega (arith, sizes-join (parts t) us, size-parts t);
    }

pub fits-table : (xs : List Node) (at : ℕ) (ts : Terms) → Forest (drop at xs) ts → sizes ts ≤ length xs - at
fits-table xs at ts f =
    let l : length (drop at xs) ≡ sizes ts + length f.rest = ap length f.is ∙ length-append (flats ts) f.rest ∙ ap (λ (n : ℕ). n + length f.rest) (length-flats ts) in
    omega (arith, length-drop at xs, l)

-- The table of a whole term.
pub whole : (xs : List Node) → HoldsTerm xs → Forest (drop 0 xs) (part (term xs) none)
whole xs e = record { rest = []; is = e ∙ sym (append-nil (flat (term xs))) ∙ sym (append-nil (flat (term xs) ++ [])) }
