-- A table holds at most one tree.
use Rattle.std.proofs.Common.{◌≡◌, List, [], ◌++◌, sym, refl, ap, ◌∙◌, append_assoc, append-nil}
use Rattle.terms.specs.Term.{Term, var, wire, bit, gate, new, bang, app, tuple, abs, Terms, none, part, count}
use Rattle.terms.specs.Flat.{flat, flats}
use Rattle.terms.specs.Parse.{firsts, lasts, build, parse, first, term, HoldsTerm, TableHasOneTree}
use Rattle.terms.specs.declared.Node.{Node}
use Rattle.terms.specs.declared.Kind.TheVariants.{New, Bang, Application, Tuple, Binder}
use Rattle.terms.proofs.Forests.{join}

firsts-join : (ts us : Terms) → firsts (count ts) (join ts us) ≡ ts
firsts-join none us = refl
firsts-join (part t ts) us = ap (λ (x : Terms). part t x) (firsts-join ts us)

lasts-join : (ts us : Terms) → lasts (count ts) (join ts us) ≡ us
lasts-join none us = refl
lasts-join (part t ts) us = lasts-join ts us

mutual
  pub parse-flat : (t : Term) (xs : List Node) → parse (flat t ++ xs) ≡ part t (parse xs)
  parse-flat (var u p) xs = refl
  parse-flat (wire w) xs = refl
  parse-flat (bit c) xs = refl
  parse-flat (gate g) xs = refl
  parse-flat (new t) xs = ap (build New) (parse-flat t xs)
  parse-flat (bang t) xs = ap (build Bang) (parse-flat t xs)
  parse-flat (app f a) xs =
      ap (λ (ys : List Node). build Application (parse ys)) (append_assoc (flat f) (flat a) xs)
      ∙ ap (build Application) (parse-flat f (flat a ++ xs) ∙ ap (λ (ts : Terms). part f ts) (parse-flat a xs))
  parse-flat (tuple ts) xs =
      ap (build (Tuple (count ts))) (parse-flats ts xs)
      ∙ ap (λ (us : Terms). part (tuple us) (lasts (count ts) (join ts (parse xs)))) (firsts-join ts (parse xs))
      ∙ ap (λ (us : Terms). part (tuple ts) us) (lasts-join ts (parse xs))
  parse-flat (abs n t) xs = ap (build (Binder n)) (parse-flat t xs)

  pub parse-flats : (ts : Terms) (xs : List Node) → parse (flats ts ++ xs) ≡ join ts (parse xs)
  parse-flats none xs = refl
  parse-flats (part t ts) xs =
      ap parse (append_assoc (flat t) (flats ts) xs) ∙ parse-flat t (flats ts ++ xs)
      ∙ ap (λ (us : Terms). part t us) (parse-flats ts xs)

pub term-flat : (t : Term) → term (flat t) ≡ t
term-flat t = ap (λ (xs : List Node). first (parse xs)) (sym (append-nil (flat t))) ∙ ap first (parse-flat t [])

pub term_is : (xs : List Node) (t : Term) → xs ≡ flat t → term xs ≡ t
term_is xs t e = ap term e ∙ term-flat t

pub holds-term : (xs : List Node) (t : Term) → xs ≡ flat t → HoldsTerm xs
holds-term xs t e = e ∙ ap flat (sym (term_is xs t e))

pub table_has_one_tree : TableHasOneTree
table_has_one_tree xs t e =
    record { is = term_is xs t e; only = λ u d. sym (term_is xs u d) ∙ term_is xs t e }
