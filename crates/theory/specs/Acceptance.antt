-- Which terms are accepted: the rules of derivation, and what follows from them by counting.
use Rattle.std.specs.Prelude.{◌≡◌, ℕ, zero, suc, ◌+◌, ◌<◌, ◌≤◌, Bool, true, false, ◌&&◌, ◌||◌, ◌↔◌, List, [], ◌∷◌}
use Rattle.terms.specs.Term.{Term, var, wire, bit, gate, new, bang, app, tuple, abs, Terms, none, part}
use Rattle.terms.specs.declared.Gate.{Gate}

-- Tests on numbers that compute at `zero` and `suc`.
abbrev pub equal : ℕ → ℕ → Bool
equal zero zero = true
equal zero (suc n) = false
equal (suc m) zero = false
equal (suc m) (suc n) = equal m n

abbrev pub below : ℕ → ℕ → Bool
below m zero = false
below zero (suc n) = true
below (suc m) (suc n) = below m n

-- A linear item: the variable (up, place), seen from where the term stands, or a wire.
pub data Item : Type 0 where
  slot : ℕ → ℕ → Item
  lead : ℕ → Item

abbrev pub same : Item → Item → Bool
same (slot u p) (slot v q) = equal u v && equal p q
same (slot u p) (lead k) = false
same (lead k) (slot u p) = false
same (lead k) (lead m) = equal k m

-- The patterns of the enclosing binders, nearest first.
abbrev pub Patterns : Type 0
Patterns = List ℕ

-- The binder `up` binders away is there and has the pattern n.
pub data Binder : Patterns → ℕ → ℕ → Type 0 where
  nearest : {n : ℕ} {G : Patterns} → Binder (n ∷ G) zero n
  further : {m n u : ℕ} {G : Patterns} → Binder G u n → Binder (m ∷ G) (suc u) n

-- A set of linear items.
abbrev pub Items : Type 0
Items = Item → Bool

abbrev pub Empty : Items → Type 0
Empty L = (i : Item) → L i ≡ false

abbrev pub Only : Item → Items → Type 0
Only j L = (i : Item) → L i ≡ same i j

-- An item of the whole goes to exactly one of the two; no other item does.
pub data Dealt : Bool → Bool → Bool → Type 0 where
  neither : Dealt false false false
  left : Dealt true true false
  right : Dealt true false true

abbrev pub Split : Items → Items → Items → Type 0
Split L M N = (i : Item) → Dealt (L i) (M i) (N i)

-- The items within a binder: its own linear variables (pattern 0 has none), and the others, one binder further away.
abbrev pub within : ℕ → Items → Items
within n L (slot zero p) = below p n
within n L (slot (suc u) p) = L (slot u p)
within n L (lead k) = L (lead k)

-- `Holds G L t`: within binders with the patterns G, the term t stands, and needs the linear items L, each once.
mutual
  pub data Holds : Patterns → Items → Term → Type 0 where
    bit_holds : {G : Patterns} {L : Items} {c : Bool} → Empty L → Holds G L (bit c)
    gate_holds : {G : Patterns} {L : Items} {g : Gate} → Empty L → Holds G L (gate g)
    shared_holds : {G : Patterns} {L : Items} {u : ℕ} → Binder G u 0 → Empty L → Holds G L (var u 0)
    linear_holds : {G : Patterns} {L : Items} {u p n : ℕ} → Binder G u n → p < n → Only (slot u p) L → Holds G L (var u p)
    wire_holds : {G : Patterns} {L : Items} {k : ℕ} → Only (lead k) L → Holds G L (wire k)
    new_holds : {G : Patterns} {L : Items} {t : Term} → Holds G L t → Holds G L (new t)
    bang_holds : {G : Patterns} {L : Items} {t : Term} → Empty L → Holds G L t → Holds G L (bang t)
    app_holds : {G : Patterns} {L M N : Items} {f a : Term} → Split L M N → Holds G M f → Holds G N a → Holds G L (app f a)
    tuple_holds : {G : Patterns} {L : Items} {ts : Terms} → Hold G L ts → Holds G L (tuple ts)
    abs_holds : {G : Patterns} {L : Items} {n : ℕ} {t : Term} → Holds (n ∷ G) (within n L) t → Holds G L (abs n t)

  pub data Hold : Patterns → Items → Terms → Type 0 where
    none_hold : {G : Patterns} {L : Items} → Empty L → Hold G L none
    part_hold : {G : Patterns} {L M N : Items} {t : Term} {ts : Terms} → Split L M N → Holds G M t → Hold G N ts → Hold G L (part t ts)

-- Whether the wire k stands in a term.
abbrev mutual
  pub stands : ℕ → Term → Bool
  stands k (var u p) = false
  stands k (wire w) = equal k w
  stands k (bit c) = false
  stands k (gate g) = false
  stands k (new t) = stands k t
  stands k (bang t) = stands k t
  stands k (app f a) = stands k f || stands k a
  stands k (tuple ts) = stand k ts
  stands k (abs n t) = stands k t

  pub stand : ℕ → Terms → Bool
  stand k none = false
  stand k (part t ts) = stands k t || stand k ts

abbrev pub own_wires : Term → Items
own_wires t (slot u p) = false
own_wires t (lead k) = stands k t

-- A whole term is accepted if it stands within no binder and needs just its own wires.
abbrev pub Accepted : Term → Type 0
Accepted t = Holds [] (own_wires t) t

-- The same by counting. `weigh f t` adds up f over the items at which variables and wires stand in t.
abbrev pub inner : (Item → ℕ) → Item → ℕ
inner f (slot zero p) = 0
inner f (slot (suc u) p) = f (slot u p)
inner f (lead k) = f (lead k)

abbrev mutual
  pub weigh : (Item → ℕ) → Term → ℕ
  weigh f (var u p) = f (slot u p)
  weigh f (wire w) = f (lead w)
  weigh f (bit c) = 0
  weigh f (gate g) = 0
  weigh f (new t) = weigh f t
  weigh f (bang t) = weigh f t
  weigh f (app g a) = weigh f g + weigh f a
  weigh f (tuple ts) = weighs f ts
  weigh f (abs n t) = weigh (inner f) t

  pub weighs : (Item → ℕ) → Terms → ℕ
  weighs f none = 0
  weighs f (part t ts) = weigh f t + weighs f ts

abbrev pub one : Bool → ℕ
one true = 1
one false = 0

-- How often an item is used.
abbrev pub uses : Item → Term → ℕ
uses i t = weigh (λ j. one (same i j)) t

-- The pattern of a binder, or 0 where there is none.
abbrev pub pattern : Patterns → ℕ → ℕ
pattern [] u = 0
pattern (n ∷ G) zero = n
pattern (n ∷ G) (suc u) = pattern G u

-- 1 at what is linear, 0 at a variable of a bang binder.
abbrev pub linear : Patterns → Item → ℕ
linear G (slot u p) = one (below p (pattern G u))
linear G (lead k) = 1

-- How many places a pattern has: place 0 alone for a bang binder, else those below n.
abbrev pub arity : ℕ → ℕ
arity zero = 1
arity (suc n) = suc n

abbrev pub Bound : Patterns → ℕ → ℕ → Type 0
Bound [] u p = ⊥
Bound (n ∷ G) zero p = p < arity n
Bound (n ∷ G) (suc u) p = Bound G u p

-- Each variable has a binder, each linear variable is used once in its binder's body, and nothing linear from outside stands in a bang.
abbrev mutual
  pub Fine : Patterns → Term → Type 0
  Fine G (var u p) = Bound G u p
  Fine G (wire w) = Unit {0}
  Fine G (bit c) = Unit {0}
  Fine G (gate g) = Unit {0}
  Fine G (new t) = Fine G t
  Fine G (bang t) = Fine G t × (weigh (linear G) t ≡ 0)
  Fine G (app f a) = Fine G f × Fine G a
  Fine G (tuple ts) = Fines G ts
  Fine G (abs n t) = Fine (n ∷ G) t × ((p : ℕ) → p < n → uses (slot 0 p) t ≡ 1)

  pub Fines : Patterns → Terms → Type 0
  Fines G none = Unit {0}
  Fines G (part t ts) = Fine G t × Fines G ts

-- The same as four properties: each variable has a binder, and its place lies in the pattern;
abbrev mutual
  pub Bounded : Patterns → Term → Type 0
  Bounded G (var u p) = Bound G u p
  Bounded G (wire w) = Unit {0}
  Bounded G (bit c) = Unit {0}
  Bounded G (gate g) = Unit {0}
  Bounded G (new t) = Bounded G t
  Bounded G (bang t) = Bounded G t
  Bounded G (app f a) = Bounded G f × Bounded G a
  Bounded G (tuple ts) = Boundeds G ts
  Bounded G (abs n t) = Bounded (n ∷ G) t

  pub Boundeds : Patterns → Terms → Type 0
  Boundeds G none = Unit {0}
  Boundeds G (part t ts) = Bounded G t × Boundeds G ts

-- each variable of a linear pattern is used once in its binder's body;
abbrev mutual
  pub Once : Term → Type 0
  Once (var u p) = Unit {0}
  Once (wire w) = Unit {0}
  Once (bit c) = Unit {0}
  Once (gate g) = Unit {0}
  Once (new t) = Once t
  Once (bang t) = Once t
  Once (app f a) = Once f × Once a
  Once (tuple ts) = Onces ts
  Once (abs n t) = Once t × ((p : ℕ) → p < n → uses (slot 0 p) t ≡ 1)

  pub Onces : Terms → Type 0
  Onces none = Unit {0}
  Onces (part t ts) = Once t × Onces ts

-- no linear variable stands in a bang within its binder's body, and no wire in any bang;
abbrev mutual
  pub Clear : Patterns → Term → Type 0
  Clear G (var u p) = Unit {0}
  Clear G (wire w) = Unit {0}
  Clear G (bit c) = Unit {0}
  Clear G (gate g) = Unit {0}
  Clear G (new t) = Clear G t
  Clear G (bang t) = Clear G t × (weigh (linear G) t ≡ 0)
  Clear G (app f a) = Clear G f × Clear G a
  Clear G (tuple ts) = Clears G ts
  Clear G (abs n t) = Clear (n ∷ G) t

  pub Clears : Patterns → Terms → Type 0
  Clears G none = Unit {0}
  Clears G (part t ts) = Clear G t × Clears G ts

-- and no wire stands twice.
abbrev pub Apart : Term → Type 0
Apart t = (k : ℕ) → uses (lead k) t ≤ 1

pub record Proper (t : Term) : Type 0 where
  pub bounded : Bounded [] t
  pub once : Once t
  pub clear : Clear [] t
  pub apart : Apart t

-- The same as a test.
abbrev pub each : ℕ → (ℕ → Bool) → Bool
each zero q = true
each (suc n) q = q n && each n q

abbrev pub bound : Patterns → ℕ → ℕ → Bool
bound [] u p = false
bound (n ∷ G) zero p = below p (arity n)
bound (n ∷ G) (suc u) p = bound G u p

abbrev mutual
  pub is_fine : Patterns → Term → Bool
  is_fine G (var u p) = bound G u p
  is_fine G (wire w) = true
  is_fine G (bit c) = true
  is_fine G (gate g) = true
  is_fine G (new t) = is_fine G t
  is_fine G (bang t) = is_fine G t && equal (weigh (linear G) t) 0
  is_fine G (app f a) = is_fine G f && is_fine G a
  is_fine G (tuple ts) = are_fine G ts
  is_fine G (abs n t) = is_fine (n ∷ G) t && each n (λ p. equal (uses (slot 0 p) t) 1)

  pub are_fine : Patterns → Terms → Bool
  are_fine G none = true
  are_fine G (part t ts) = is_fine G t && are_fine G ts

-- Each wire that stands in a part of t stands once in the whole.
abbrev mutual
  pub single_in : Term → Term → Bool
  single_in whole (var u p) = true
  single_in whole (wire w) = equal (uses (lead w) whole) 1
  single_in whole (bit c) = true
  single_in whole (gate g) = true
  single_in whole (new t) = single_in whole t
  single_in whole (bang t) = single_in whole t
  single_in whole (app f a) = single_in whole f && single_in whole a
  single_in whole (tuple ts) = singles_in whole ts
  single_in whole (abs n t) = single_in whole t

  pub singles_in : Term → Terms → Bool
  singles_in whole none = true
  singles_in whole (part t ts) = single_in whole t && singles_in whole ts

abbrev pub accepted : Term → Bool
accepted t = is_fine [] t && single_in t t

-- The theorems.
abbrev pub AcceptedIsProper : Type 0
AcceptedIsProper = (t : Term) → Accepted t ↔ Proper t

abbrev pub AcceptedIsTested : Type 0
AcceptedIsTested = (t : Term) → Accepted t ↔ (accepted t ≡ true)

-- A term needs one set of items at most.
abbrev pub NeedsDetermined : Type 0
NeedsDetermined = (G : Patterns) (L M : Items) (t : Term) → Holds G L t → Holds G M t → (i : Item) → L i ≡ M i
