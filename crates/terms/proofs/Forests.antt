-- Rows of terms, and the lengths of their tables.
use Rattle.std.proofs.Common.{◌≡◌, ◌+◌, ◌∷◌, ◌++◌, length, sym, refl, ap, ◌∙◌, append_assoc, append-nil, arith, length-append}
use Rattle.terms.specs.Term.{Term, var, wire, bit, gate, new, bang, app, tuple, abs, Terms, none, part, count, size, sizes}
use Rattle.terms.specs.Flat.{flat, flats, node, parts, part_count}

-- One row of terms and then another.
abbrev pub join : Terms → Terms → Terms
join none us = us
join (part t ts) us = part t (join ts us)

mutual
  pub length-flat : (t : Term) → length (flat t) ≡ size t
  length-flat (var u p) = refl
  length-flat (wire w) = refl
  length-flat (bit c) = refl
  length-flat (gate g) = refl
  length-flat (new t) = omega (arith, length-flat t)
  length-flat (bang t) = omega (arith, length-flat t)
  length-flat (app f a) = omega (arith, length-append (flat f) (flat a), length-flat f, length-flat a)
  length-flat (tuple ts) = omega (arith, length-flats ts)
  length-flat (abs n t) = omega (arith, length-flat t)

  pub length-flats : (ts : Terms) → length (flats ts) ≡ sizes ts
  length-flats none = refl
  length-flats (part t ts) = omega (arith, length-append (flat t) (flats ts), length-flat t, length-flats ts)

-- A term's table is its node and then the tables of its parts.
pub flat-node : (t : Term) → flat t ≡ node t ∷ flats (parts t)
flat-node (var u p) = refl
flat-node (wire w) = refl
flat-node (bit c) = refl
flat-node (gate g) = refl
flat-node (new t) = ap (λ xs. node (new t) ∷ xs) (sym (append-nil (flat t)))
flat-node (bang t) = ap (λ xs. node (bang t) ∷ xs) (sym (append-nil (flat t)))
flat-node (app f a) = ap (λ xs. node (app f a) ∷ (flat f ++ xs)) (sym (append-nil (flat a)))
flat-node (tuple ts) = refl
flat-node (abs n t) = ap (λ xs. node (abs n t) ∷ xs) (sym (append-nil (flat t)))

pub count-parts : (t : Term) → count (parts t) ≡ part_count (node t)
count-parts (var u p) = refl
count-parts (wire w) = refl
count-parts (bit c) = refl
count-parts (gate g) = refl
count-parts (new t) = refl
count-parts (bang t) = refl
count-parts (app f a) = refl
count-parts (tuple ts) = refl
count-parts (abs n t) = refl

pub size-parts : (t : Term) → size t ≡ 1 + sizes (parts t)
size-parts t = omega (arith, sym (length-flat t) ∙ ap length (flat-node t), length-flats (parts t))

-- Two rows of terms in one.
pub flats-join : (ts us : Terms) → flats (join ts us) ≡ flats ts ++ flats us
flats-join none us = refl
flats-join (part t ts) us = ap (λ xs. flat t ++ xs) (flats-join ts us) ∙ sym (append_assoc (flat t) (flats ts) (flats us))

pub count-join : (ts us : Terms) → count (join ts us) ≡ count ts + count us
count-join none us = omega arith
count-join (part t ts) us = omega (arith, count-join ts us)

pub sizes-join : (ts us : Terms) → sizes (join ts us) ≡ sizes ts + sizes us
sizes-join none us = omega arith
sizes-join (part t ts) us = omega (arith, sizes-join ts us)
