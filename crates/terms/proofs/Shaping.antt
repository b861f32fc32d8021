-- The test of the ranges is exact.
use Rattle.std.proofs.Common.{◌≡◌, true, ◌&&◌, ltb, leb, refl, ltb-true, lt-ltb, le-leb, leb-true}
use Rattle.std.proofs.lemmas.Bool.{and_parts, and_from}
use Rattle.terms.specs.Term.{Term, var, wire, bit, gate, new, bang, app, tuple, abs, Terms, none, part, count}
use Rattle.terms.specs.Shape.{Shaped, Shapeds, shaped, shapeds}

mutual
  pub shaped_is : (t : Term) → shaped t ≡ true → Shaped t
  shaped_is (var u p) e = let q = and_parts (ltb u 4096) (ltb p 8) e in (ltb-true u 4096 q.0, ltb-true p 8 q.1)
  shaped_is (wire w) e = ltb-true w 4096 e
  shaped_is (bit c) e = tt
  shaped_is (gate g) e = tt
  shaped_is (new t) e = shaped_is t e
  shaped_is (bang t) e = shaped_is t e
  shaped_is (app f a) e = let q = and_parts (shaped f) (shaped a) e in (shaped_is f q.0, shaped_is a q.1)
  shaped_is (tuple ts) e =
      let q = and_parts (shapeds ts) (leb 2 (count ts) && leb (count ts) 8) e in
      let r = and_parts (leb 2 (count ts)) (leb (count ts) 8) q.1 in
      (shapeds_are ts q.0, leb-true 2 (count ts) r.0, leb-true (count ts) 8 r.1)
  shaped_is (abs n t) e = let q = and_parts (leb n 8) (shaped t) e in (leb-true n 8 q.0, shaped_is t q.1)

  pub shapeds_are : (ts : Terms) → shapeds ts ≡ true → Shapeds ts
  shapeds_are none e = tt
  shapeds_are (part t ts) e = let q = and_parts (shaped t) (shapeds ts) e in (shaped_is t q.0, shapeds_are ts q.1)

mutual
  pub is_shaped : (t : Term) → Shaped t → shaped t ≡ true
  is_shaped (var u p) h = and_from (ltb u 4096) (ltb p 8) (lt-ltb u 4096 h.0) (lt-ltb p 8 h.1)
  is_shaped (wire w) h = lt-ltb w 4096 h
  is_shaped (bit c) h = refl
  is_shaped (gate g) h = refl
  is_shaped (new t) h = is_shaped t h
  is_shaped (bang t) h = is_shaped t h
  is_shaped (app f a) h = and_from (shaped f) (shaped a) (is_shaped f h.0) (is_shaped a h.1)
  is_shaped (tuple ts) h =
      and_from (shapeds ts) (leb 2 (count ts) && leb (count ts) 8) (are_shaped ts h.0)
      (and_from (leb 2 (count ts)) (leb (count ts) 8) (le-leb 2 (count ts) h.1) (le-leb (count ts) 8 h.2))
  is_shaped (abs n t) h = and_from (leb n 8) (shaped t) (le-leb n 8 h.0) (is_shaped t h.1)

  pub are_shaped : (ts : Terms) → Shapeds ts → shapeds ts ≡ true
  are_shaped none h = refl
  are_shaped (part t ts) h = and_from (shaped t) (shapeds ts) (is_shaped t h.0) (are_shaped ts h.1)
