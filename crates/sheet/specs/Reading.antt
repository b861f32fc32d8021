-- The term that the lines of a sheet write, and what reading answers.
use Rattle.std.specs.Prelude.{◌≡◌, ℕ, suc, false, ◌⊎◌, List, [], ◌∷◌, ◌++◌, length, Ok, Err, vec_items, Result}
use Rattle.terms.specs.Term.{Term, bit, Terms, none, part}
use Rattle.terms.specs.Flat.{kind_of, parts}
use Rattle.terms.specs.Parse.{term}
use Rattle.sheet.specs.Entry.{Entry}
use Rattle.sheet.specs.Located.{nodes_in, lines_in}
use Rattle.sheet.specs.Sheet.{Sized, Malformed, Misplaced, Unused, Says}
use Rattle.sheet.specs.declared.refusal.Rule.{Rule}
use Rattle.sheet.specs.declared.refusal.Rule.TheVariants.{Form, Size, Part, Unbound, Misused, Shut, Repeated}
use Rattle.sheet.specs.declared.refusal.Refusal.{Refusal}
use Rattle.sheet.specs.declared.program.Program.{Program}

-- Line n of these entries, counted from 1, is e.
pub data Line : List Entry → ℕ → Entry → Type 0 where
  first_line : {e : Entry} {es : List Entry} → Line (e ∷ es) 1 e
  later_line : {d e : Entry} {es : List Entry} {n : ℕ} → Line es n e → Line (d ∷ es) (suc n) e

-- `Writes es n t ls`: line n is the term t, whose nodes stand on the lines ls, in the order of their numbers.
mutual
  pub data Writes (es : List Entry) : ℕ → Term → List ℕ → Type 0 where
    line : {n : ℕ} {t : Term} {ps ls : List ℕ} → Line es n (kind_of t, ps) → Write es ps (parts t) ls → Writes es n t (n ∷ ls)

  pub data Write (es : List Entry) : List ℕ → Terms → List ℕ → Type 0 where
    no_parts : Write es [] none []
    more_parts : {p : ℕ} {ps : List ℕ} {t : Term} {ts : Terms} {ls ms : List ℕ} → Writes es p t ls → Write es ps ts ms → Write es (p ∷ ps) (part t ts) (ls ++ ms)

-- The term of a program that was read, and the lines of its nodes.
abbrev pub term_of : Program → Term
term_of p = term (nodes_in (vec_items p.table))

abbrev pub lines_of : Program → List ℕ
lines_of p = lines_in (vec_items p.table)

-- The program holds what the sheet says: its last line is the whole term.
pub record HoldsSheet (bs : List ℕ) (p : Program) : Type 0 where
  pub entries : List Entry
  pub says : Says bs entries
  pub writes : Writes entries (length entries) (term_of p) (lines_of p)

-- Why reading refuses a sheet. The rules from Unbound on are those of checking.
abbrev pub Refuses : List ℕ → Rule → ℕ → Type 0
Refuses bs Size l = (Sized bs → ⊥) × (l ≡ 0)
Refuses bs Form l = Malformed bs l
Refuses bs Part l = Misplaced bs l ⊎ Unused bs l
Refuses bs Unbound l = ⊥
Refuses bs Misused l = ⊥
Refuses bs Shut l = ⊥
Refuses bs Repeated l = ⊥

-- What reading answers, and what the place then holds.
abbrev pub Reads : List ℕ → Result (Unit {0}) Refusal → Program → Program → Type 0
Reads bs (Ok _) old now = HoldsSheet bs now
Reads bs (Err f) old now = Refuses bs f.rule f.line × (now ≡ old)

-- The program of the constant 0, on line 1.
pub record HoldsZero (p : Program) : Type 0 where
  pub zero : term_of p ≡ bit false
  pub on_line_one : lines_of p ≡ 1 ∷ []

-- A sheet is refused in at most one way, is not both refused and read, and is read as one program only.
pub record Determined (bs : List ℕ) : Type 0 where
  pub one_refusal : (r s : Rule) (l m : ℕ) → Refuses bs r l → Refuses bs s m → (r ≡ s) × (l ≡ m)
  pub not_both : (r : Rule) (l : ℕ) (p : Program) → Refuses bs r l → HoldsSheet bs p → ⊥
  pub one_program : (p q : Program) → HoldsSheet bs p → HoldsSheet bs q → (term_of p ≡ term_of q) × (lines_of p ≡ lines_of q)

abbrev pub ReadingIsDetermined : Type 0
ReadingIsDetermined = (bs : List ℕ) → Determined bs
