-- A letter and numbers make an entry exactly if they are what it is written with.
use Rattle.std.proofs.Common.{◌≡◌, ℕ, zero, suc, ◌<◌, ◌≤◌, Bool, true, false, cond, ◌&&◌, eqb, ltb, leb, List, [], ◌∷◌, ◌++◌, map, length, get_or, Some, None, decimal, Option, sym, refl, ap, ◌∙◌, subst, arith}
use Rattle.std.proofs.lemmas.Bool.{leb-true, ltb-true, eqb-true, eqb-false, le-leb, lt-ltb, eq-eqb, and_parts, and_from, cond_both}
use Rattle.std.proofs.lemmas.List.{nil_from_length}
use Rattle.terms.specs.Flat.{kind_parts, wire_of}
use Rattle.terms.specs.declared.Kind.{Kind}
use Rattle.terms.specs.declared.Kind.TheVariants.{Variable, Wire, Constant, Gate, New, Bang, Application, Tuple, Binder}
use Rattle.sheet.specs.Entry.{Entry, letter, own, Each, InRange, Proper}
use Rattle.sheet.specs.Fields.{positive, given, shape}

-- The letter as a byte.
abbrev pub byte : Kind → ℕ
byte (Variable p u) = 118
byte (Wire w) = 119
byte (Constant c) = 99
byte (Gate g) = 103
byte New = 110
byte Bang = 98
byte Application = 97
byte (Tuple n) = 116
byte (Binder n) = 108

pub letter-byte : (k : Kind) → letter k ≡ byte k ∷ []
letter-byte (Variable p u) = refl
letter-byte (Wire w) = refl
letter-byte (Constant c) = refl
letter-byte (Gate g) = refl
letter-byte New = refl
letter-byte Bang = refl
letter-byte Application = refl
letter-byte (Tuple n) = refl
letter-byte (Binder n) = refl

-- The numbers in a node's own fields; a gate has none.
abbrev own_numbers : Kind → List ℕ
own_numbers (Variable p u) = u ∷ (p ∷ [])
own_numbers (Wire w) = w.number ∷ []
own_numbers (Constant c) = cond c 1 0 ∷ []
own_numbers (Gate g) = []
own_numbers New = []
own_numbers Bang = []
own_numbers Application = []
own_numbers (Tuple n) = []
own_numbers (Binder n) = n ∷ []

abbrev pub numbers : Entry → List ℕ
numbers e = own_numbers e.0 ++ e.1

-- The fields of an entry that is no gate.
pub record Numeric (e : Entry) : Type 0 where
  pub fields : own e.0 ++ map decimal e.1 ≡ map decimal (numbers e)
  pub range : Each (λ n. n ≤ 4096) (numbers e)
  pub few : length (numbers e) ≤ 8

pub ranges : (ps : List ℕ) → Each (λ p. (1 ≤ p) × (p ≤ 4096)) ps → Each (λ p. p ≤ 4096) ps
ranges [] r = tt
ranges (p ∷ ps) r = (r.0.1, ranges ps r.1)

pub numeric : (k : Kind) (ps : List ℕ) → (byte k ≡ 103 → ⊥) → Proper (k, ps) → Numeric (k, ps)
numeric (Variable p u) ps n h = record { fields = refl; range = (omega (arith, h.own_range.0), (omega (arith, h.own_range.1), ranges ps h.part_range)); few = omega (arith, h.part_count) }
numeric (Wire w) ps n h = record { fields = refl; range = (omega (arith, h.own_range), ranges ps h.part_range); few = omega (arith, h.part_count) }
numeric (Constant true) ps n h = record { fields = refl; range = (omega arith, ranges ps h.part_range); few = omega (arith, h.part_count) }
numeric (Constant false) ps n h = record { fields = refl; range = (omega arith, ranges ps h.part_range); few = omega (arith, h.part_count) }
numeric (Gate g) ps n h = absurd (n refl)
numeric New ps n h = record { fields = refl; range = ranges ps h.part_range; few = omega (arith, h.part_count) }
numeric Bang ps n h = record { fields = refl; range = ranges ps h.part_range; few = omega (arith, h.part_count) }
numeric Application ps n h = record { fields = refl; range = ranges ps h.part_range; few = omega (arith, h.part_count) }
numeric (Tuple m) ps n h = record { fields = refl; range = ranges ps h.part_range; few = omega (arith, h.part_count, h.own_range.1) }
numeric (Binder m) ps n h = record { fields = refl; range = (omega (arith, h.own_range), ranges ps h.part_range); few = omega (arith, h.part_count) }

positive-from : (ps : List ℕ) → Each (λ p. (1 ≤ p) × (p ≤ 4096)) ps → positive ps ≡ true
positive-from [] r = refl
positive-from (p ∷ ps) r = and_from _ _ (lt-ltb 0 p r.0.0) (positive-from ps r.1)

positive-to : (ps : List ℕ) → positive ps ≡ true → Each (λ p. p ≤ 4096) ps → Each (λ p. (1 ≤ p) × (p ≤ 4096)) ps
positive-to [] h r = tt
positive-to (p ∷ ps) h r = let q = and_parts (ltb 0 p) (positive ps) h in ((ltb-true 0 p q.0, r.0), positive-to ps q.1 r.1)

positive_at : (ns : List ℕ) (i : ℕ) → i < length ns → positive ns ≡ true → 0 < get_or ns i 0
positive_at [] i l h = absurd (omega arith)
positive_at (n ∷ ns) zero l h = ltb-true 0 n (and_parts (ltb 0 n) (positive ns) h).0
positive_at (n ∷ ns) (suc i) l h = positive_at ns i (omega arith) (and_parts (ltb 0 n) (positive ns) h).1

all_parts : (k : Kind) (ps : List ℕ) (t : Bool) → t ≡ true → Proper (k, ps) → given (t && positive ps) k ps ≡ Some (k, ps)
all_parts k ps t e h = rw (e, positive-from ps h.part_range) refl

-- An entry that is no gate is made of its letter and its numbers.
pub complete : (k : Kind) (ps : List ℕ) → (byte k ≡ 103 → ⊥) → Proper (k, ps) → shape (byte k) (numbers (k, ps)) ≡ Some (k, ps)
complete (Variable p u) ps n h = rw (nil_from_length ps h.part_count, le-leb u 4095 (omega (arith, h.own_range.0)), le-leb p 7 (omega (arith, h.own_range.1))) refl
complete (Wire w) ps n h = rw (nil_from_length ps h.part_count, le-leb w.number 4095 (omega (arith, h.own_range))) refl
complete (Constant true) ps n h = rw (nil_from_length ps h.part_count) refl
complete (Constant false) ps n h = rw (nil_from_length ps h.part_count) refl
complete (Gate g) ps n h = absurd (n refl)
complete New ps n h = all_parts New ps _ (eq-eqb _ _ h.part_count) h
complete Bang ps n h = all_parts Bang ps _ (eq-eqb _ _ h.part_count) h
complete Application ps n h = all_parts Application ps _ (eq-eqb _ _ h.part_count) h
complete (Tuple m) ps n h = rw (le-leb 2 (length ps) (omega (arith, h.part_count, h.own_range.0)), positive-from ps h.part_range) (ap (λ x. Some (Tuple x, ps)) h.part_count)
complete (Binder m) [] n h = absurd (omega (arith, h.part_count))
complete (Binder m) (p ∷ []) n h = rw (le-leb m 8 h.own_range, lt-ltb 0 p h.part_range.0.0) refl
complete (Binder m) (p ∷ q ∷ ps) n h = absurd (omega (arith, h.part_count))

-- What is made is written with the letter and the numbers.
pub record Made (b : ℕ) (ns : List ℕ) (e : Entry) : Type 0 where
  pub initial : b ≡ byte e.0
  pub fields : ns ≡ numbers e
  pub proper : Proper e

one_number : (ns : List ℕ) → length ns ≡ 1 → ns ≡ get_or ns 0 0 ∷ []
one_number [] h = absurd (omega arith)
one_number (x ∷ []) h = refl
one_number (x ∷ y ∷ ns) h = absurd (omega arith)

two_numbers : (ns : List ℕ) → length ns ≡ 2 → ns ≡ get_or ns 0 0 ∷ (get_or ns 1 0 ∷ [])
two_numbers [] h = absurd (omega arith)
two_numbers (x ∷ ns) h = ap (λ r. x ∷ r) (one_number ns (omega arith))

made-given : (b : ℕ) (ns : List ℕ) (t : Bool) (k : Kind) (ps : List ℕ) (e : Entry) → (t ≡ true → Made b ns (k, ps)) → given t k ps ≡ Some e → Made b ns e
made-given b ns true k ps e f q = let s : ◌≡◌ {A = Entry} (k, ps) e = cc in subst (λ x. Made b ns x) s (f refl)
made-given b ns false k ps e f q = absurd (let z : ◌≡◌ {A = ℕ} 0 1 = cc in omega arith)

bit : (n : ℕ) → n ≤ 1 → n ≡ cond (eqb n 1) 1 0
bit n h = cond_both (eqb n 1) 1 0 (λ x. n ≡ x) (λ e. eqb-true n 1 e) (λ e. omega (arith, eqb-false n 1 e))

module _ (b : ℕ) (ns : List ℕ) (range : Each (λ n. n ≤ 4096) ns) (few : length ns ≤ 8) where
  -- The letters whose numbers are all parts.
  made-parts : (k : Kind) (t : Bool) → b ≡ byte k → (t ≡ true → (numbers (k, ns) ≡ ns) × InRange k × (length ns ≡ kind_parts k)) → t && positive ns ≡ true → Made b ns (k, ns)
  made-parts k t i f q =
      let p = and_parts t (positive ns) q in
      let g = f p.0 in
      record { initial = i; fields = sym g.0; proper = record { own_range = g.1; part_count = g.2; part_range = positive-to ns p.1 range } }

  made_variable : b ≡ 118 → eqb (length ns) 2 && leb (get_or ns 0 0) 4095 && leb (get_or ns 1 0) 7 ≡ true → Made b ns (Variable (get_or ns 1 0) (get_or ns 0 0), [])
  made_variable i q =
      let p = and_parts (eqb (length ns) 2 && leb (get_or ns 0 0) 4095) (leb (get_or ns 1 0) 7) q in
      let o = and_parts (eqb (length ns) 2) (leb (get_or ns 0 0) 4095) p.0 in
      record {
        initial = i;
        fields = two_numbers ns (eqb-true _ _ o.0);
        proper = record { own_range = (omega (arith, leb-true _ _ o.1), omega (arith, leb-true _ _ p.1)); part_count = refl; part_range = tt };
      }

  made-wire : b ≡ 119 → eqb (length ns) 1 && leb (get_or ns 0 0) 4095 ≡ true → Made b ns (Wire (wire_of (get_or ns 0 0)), [])
  made-wire i q =
      let p = and_parts (eqb (length ns) 1) (leb (get_or ns 0 0) 4095) q in
      record {
        initial = i;
        fields = one_number ns (eqb-true _ _ p.0);
        proper = record { own_range = omega (arith, leb-true _ _ p.1); part_count = refl; part_range = tt };
      }

  made_constant : b ≡ 99 → eqb (length ns) 1 && leb (get_or ns 0 0) 1 ≡ true → Made b ns (Constant (eqb (get_or ns 0 0) 1), [])
  made_constant i q =
      let p = and_parts (eqb (length ns) 1) (leb (get_or ns 0 0) 1) q in
      record {
        initial = i;
        fields = one_number ns (eqb-true _ _ p.0) ∙ ap (λ x. x ∷ []) (bit (get_or ns 0 0) (leb-true _ _ p.1));
        proper = record { own_range = tt; part_count = refl; part_range = tt };
      }

  made_binder : b ≡ 108 → eqb (length ns) 2 && leb (get_or ns 0 0) 8 && ltb 0 (get_or ns 1 0) ≡ true → Made b ns (Binder (get_or ns 0 0), get_or ns 1 0 ∷ [])
  made_binder i q =
      let p = and_parts (eqb (length ns) 2 && leb (get_or ns 0 0) 8) (ltb 0 (get_or ns 1 0)) q in
      let o = and_parts (eqb (length ns) 2) (leb (get_or ns 0 0) 8) p.0 in
      let e = two_numbers ns (eqb-true _ _ o.0) in
      let r = subst (λ l. Each (λ n. n ≤ 4096) l) e range in
      record {
        initial = i;
        fields = e;
        proper = record { own_range = leb-true _ _ o.1; part_count = refl; part_range = ((ltb-true _ _ p.1, r.1.0), tt) };
      }

  -- What is made of a letter and of numbers is written with them.
  pub sound : (e : Entry) → shape b ns ≡ Some e → Made b ns e
  sound e =
      try 118 _ _ (λ i. made-given b ns _ _ _ e (made_variable i)) (
      try 119 _ _ (λ i. made-given b ns _ _ _ e (made-wire i)) (
      try 99 _ _ (λ i. made-given b ns _ _ _ e (made_constant i)) (
      try 110 _ _ (λ i. made-given b ns _ _ _ e (made-parts New _ i (λ t. (refl, tt, eqb-true _ _ t)))) (
      try 98 _ _ (λ i. made-given b ns _ _ _ e (made-parts Bang _ i (λ t. (refl, tt, eqb-true _ _ t)))) (
      try 97 _ _ (λ i. made-given b ns _ _ _ e (made-parts Application _ i (λ t. (refl, tt, eqb-true _ _ t)))) (
      try 116 _ _ (λ i. made-given b ns _ _ _ e (made-parts (Tuple (length ns)) _ i (λ t. (refl, (leb-true _ _ t, few), refl)))) (
      try 108 _ _ (λ i. made-given b ns _ _ _ e (made_binder i)) (
      λ q. absurd (let z : ◌≡◌ {A = ℕ} 0 1 = cc in omega arith)))))))))
    where
      try : (a : ℕ) (x y : Option Entry) → (b ≡ a → x ≡ Some e → Made b ns e) → (y ≡ Some e → Made b ns e) → cond (eqb b a) x y ≡ Some e → Made b ns e
      try a x y f g = cond_both (eqb b a) x y (λ o. o ≡ Some e → Made b ns e) (λ t. f (eqb-true b a t)) (λ _. g)

-- Numbers that fit no letter make no entry.
module _ (b : ℕ) (ns : List ℕ) where
  none_given : (t : Bool) (k : Kind) (ps : List ℕ) → (t ≡ true → ⊥) → given t k ps ≡ None
  none_given true k ps h = absurd (h refl)
  none_given false k ps h = refl

  pub misfit : (b ≡ 118 → length ns ≡ 2 → get_or ns 0 0 ≤ 4095 → get_or ns 1 0 ≤ 7 → ⊥) → (b ≡ 119 → length ns ≡ 1 → get_or ns 0 0 ≤ 4095 → ⊥) → (b ≡ 99 → length ns ≡ 1 → get_or ns 0 0 ≤ 1 → ⊥) → (b ≡ 110 → length ns ≡ 1 → 0 < get_or ns 0 0 → ⊥) → (b ≡ 98 → length ns ≡ 1 → 0 < get_or ns 0 0 → ⊥) → (b ≡ 97 → length ns ≡ 2 → 0 < get_or ns 0 0 → 0 < get_or ns 1 0 → ⊥) → (b ≡ 116 → 2 ≤ length ns → positive ns ≡ true → ⊥) → (b ≡ 108 → length ns ≡ 2 → get_or ns 0 0 ≤ 8 → 0 < get_or ns 1 0 → ⊥) → shape b ns ≡ None
  misfit v w c n g a t l =
      try 118 _ _ (λ i. none_given _ _ _ (λ q. let p = and_parts _ _ q in let o = and_parts _ _ p.0 in v i (eqb-true _ _ o.0) (leb-true _ _ o.1) (leb-true _ _ p.1))) (
      try 119 _ _ (λ i. none_given _ _ _ (λ q. let p = and_parts _ _ q in w i (eqb-true _ _ p.0) (leb-true _ _ p.1))) (
      try 99 _ _ (λ i. none_given _ _ _ (λ q. let p = and_parts _ _ q in c i (eqb-true _ _ p.0) (leb-true _ _ p.1))) (
      try 110 _ _ (λ i. none_given _ _ _ (λ q. let p = and_parts _ _ q in one_part n i (eqb-true _ _ p.0) p.1)) (
      try 98 _ _ (λ i. none_given _ _ _ (λ q. let p = and_parts _ _ q in one_part g i (eqb-true _ _ p.0) p.1)) (
      try 97 _ _ (λ i. none_given _ _ _ (λ q. let p = and_parts _ _ q in two_parts a i (eqb-true _ _ p.0) p.1)) (
      try 116 _ _ (λ i. none_given _ _ _ (λ q. let p = and_parts _ _ q in t i (leb-true _ _ p.0) p.1)) (
      try 108 _ _ (λ i. none_given _ _ _ (λ q. let p = and_parts _ _ q in let o = and_parts _ _ p.0 in l i (eqb-true _ _ o.0) (leb-true _ _ o.1) (ltb-true _ _ p.1))) refl)))))))
    where
      try : (a : ℕ) (x y : Option Entry) → (b ≡ a → x ≡ None) → y ≡ None → cond (eqb b a) x y ≡ None
      try a x y f g = cond_both (eqb b a) x y (λ o. o ≡ None) (λ t. f (eqb-true b a t)) (λ _. g)

      one_part : {a : ℕ} → (b ≡ a → length ns ≡ 1 → 0 < get_or ns 0 0 → ⊥) → b ≡ a → length ns ≡ 1 → positive ns ≡ true → ⊥
      one_part f i e p = f i e (positive_at ns 0 (omega arith) p)

      two_parts : {a : ℕ} → (b ≡ a → length ns ≡ 2 → 0 < get_or ns 0 0 → 0 < get_or ns 1 0 → ⊥) → b ≡ a → length ns ≡ 2 → positive ns ≡ true → ⊥
      two_parts f i e p = f i e (positive_at ns 0 (omega arith) p) (positive_at ns 1 (omega arith) p)
