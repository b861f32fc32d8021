-- Counting nodes one after another.
use Rattle.std.proofs.Common.{◌≡◌, ℕ, ◌+◌, ◌<◌, ◌==◌, Bool, true, false, cond, List, map, length, get_or, take, set, arith, ◌∙◌}
use Rattle.std.proofs.lemmas.List.Sums.{sum_by_more}
use Rattle.std.specs.List.{count_by}
use Rattle.terms.specs.declared.Kind.{Kind}
use Rattle.terms.specs.declared.Kind.TheVariants.{Variable, Wire, Constant, Gate, New, Bang, Application, Tuple, Binder}
use Rattle.sheet.specs.declared.located.LocatedNode.{LocatedNode}
use Rattle.board.specs.Account.{letter_of, letters, place_of, counted}

-- How many of the nodes are of the kind with this letter.
abbrev tally : List LocatedNode → ℕ → ℕ
tally xs k = count_by (λ x. letter_of x.node.kind == k) xs

-- The pairs, with one more in the pair at this place.
abbrev one_more_at : ℕ → List (ℕ × ℕ) → List (ℕ × ℕ)
one_more_at m counts = set {A = ℕ × ℕ} counts m ((get_or counts m (0, 0)).0, (get_or counts m (0, 0)).1 + 1)

one_more_if : (b : Bool) (n : ℕ) → n + cond b 1 0 ≡ cond b (n + 1) n
one_more_if true n = omega arith
one_more_if false n = omega arith

tally_more : (xs : List LocatedNode) (i : ℕ) (d : LocatedNode) → i < length xs → (k : ℕ) → tally (take (i + 1) xs) k ≡ cond (letter_of (get_or xs i d).node.kind == k) (tally (take i xs) k + 1) (tally (take i xs) k)
tally_more xs i d l k =
    sum_by_more (λ x. cond (letter_of x.node.kind == k) 1 0) xs i d l
    ∙ one_more_if (letter_of (get_or xs i d).node.kind == k) (tally (take i xs) k)

-- Where the number of one kind's letter goes up by one and the others stay, only the pair at that kind's place changes.
paired_more : (f g : ℕ → ℕ) (kind : Kind) → ((k : ℕ) → f k ≡ cond (letter_of kind == k) (g k + 1) (g k)) → one_more_at (place_of kind) (map (λ k. (k, g k)) letters) ≡ map (λ k. (k, f k)) letters
paired_more f g (Variable p u) h = simp h
paired_more f g (Wire w) h = simp h
paired_more f g (Constant c) h = simp h
paired_more f g (Gate a) h = simp h
paired_more f g New h = simp h
paired_more f g Bang h = simp h
paired_more f g Application h = simp h
paired_more f g (Tuple n) h = simp h
paired_more f g (Binder n) h = simp h

pub counted_more : (xs : List LocatedNode) (i : ℕ) (d : LocatedNode) (counts : List (ℕ × ℕ)) (m : ℕ) → i < length xs → m ≡ place_of (get_or xs i d).node.kind → counts ≡ counted (take i xs) → one_more_at m counts ≡ counted (take (i + 1) xs)
counted_more xs i d counts m l e h =
    rw (e, h) (paired_more (tally (take (i + 1) xs)) (tally (take i xs)) (get_or xs i d).node.kind (tally_more xs i d l))
