-- A stack of lines whose terms are still to come.
use Rattle.std.proofs.Common.{◌≡◌, ℕ, suc, ◌+◌, ◌-◌, ◌<◌, ◌≤◌, List, [], ◌∷◌, ◌++◌, reverse, length, get_or, sym, refl, ap, ◌∙◌, subst, append_assoc, append-nil, arith, length-append}
use Rattle.std.proofs.lemmas.List.{reverse-append, reverse-reverse, length-reverse, length-map, map-append}
use Rattle.terms.specs.Term.{Term, Terms, none, part}
use Rattle.terms.specs.Flat.{flat, flats, node_of, kind_of, parts}
use Rattle.terms.specs.declared.Kind.{Kind}
use Rattle.terms.specs.declared.Node.{Node}
use Rattle.terms.proofs.Forests.{join, flat-node, flats-join}
use Rattle.sheet.specs.Entry.{Entry}
use Rattle.sheet.specs.Sheet.{Placed, Says}
use Rattle.sheet.specs.Entries.{entry, entries}
use Rattle.sheet.specs.Located.{nodes_in, lines_in}
use Rattle.sheet.specs.Reading.{Line, first_line, later_line, Writes, Write, line, no_parts, more_parts}
use Rattle.sheet.specs.Tables.{Tabled}
use Rattle.sheet.specs.declared.line.Line.{Line as CodeLine}
use Rattle.sheet.specs.declared.located.LocatedNode.{LocatedNode}
use Rattle.sheet.proofs.Beginning.{few-lines, some_lines}
use Rattle.sheet.proofs.Times.{few}
use Rattle.sheet.proofs.Writing.{WrittenTerm, written-term, writes-once, writes-range, line-range}

-- Where the walk is: the terms that pending lines write are still to come, and make up the rest of the whole.
pub record Underway (es : List Entry) (pending : List ℕ) (table : List LocatedNode) : Type 0 where
  pub whole : WrittenTerm es (length es)
  pub terms : Terms
  pub left : List ℕ
  pub writes : Write es (reverse pending) terms left
  pub nodes_whole : nodes_in table ++ flats terms ≡ flat whole.term
  pub lines-whole : lines_in table ++ left ≡ whole.lines

pub starts : (es : List Entry) (pending : List ℕ) (table : List LocatedNode) → (bs : List ℕ) → Says bs es → pending ≡ length es ∷ [] → table ≡ [] → Underway es pending table
starts es pending table bs s a b =
    let w = written-term es s.begins.proper s.begins.placed (some_lines bs es s.begins) in
    record {
      whole = w;
      terms = part w.term none;
      left = w.lines ++ [];
      writes = subst (λ (ps : List ℕ). Write es ps (part w.term none) (w.lines ++ [])) (sym (ap reverse a)) (more_parts w.writes no_parts);
      nodes_whole = ap (λ (ns : List LocatedNode). nodes_in ns ++ (flat w.term ++ [])) b ∙ append-nil (flat w.term);
      lines-whole = ap (λ (ns : List LocatedNode). lines_in ns ++ (w.lines ++ [])) b ∙ append-nil w.lines;
    }

write_append : {es : List Entry} {ps : List ℕ} {ts : Terms} {ls : List ℕ} → Write es ps ts ls → (qs : List ℕ) (us : Terms) (ms : List ℕ) → Write es qs us ms → Write es (ps ++ qs) (join ts us) (ls ++ ms)
write_append no_parts qs us ms v = v
write_append {es = es} (more_parts {p = p} {ps = ps} {t = t} {ts = ts} {ls = ls} {ms = ls'} w ws) qs us ms v =
    subst (λ xs. Write es (p ∷ (ps ++ qs)) (part t (join ts us)) xs) (sym (append_assoc ls ls' ms)) (more_parts w (write_append ws qs us ms v))

-- The line on top of the stack.
record Top (es : List Entry) (rest : List ℕ) (n : ℕ) (terms : Terms) (left : List ℕ) : Type 0 where
  pub term : Term
  pub below : List ℕ
  pub lines : List ℕ
  pub terms-after : Terms
  pub left_after : List ℕ
  pub says : Line es n (kind_of term, below)
  pub writes : Write es below (parts term) lines
  pub writes-after : Write es rest terms-after left_after
  pub terms_are : terms ≡ part term terms-after
  pub left_is : left ≡ n ∷ (lines ++ left_after)

top-writes : {es : List Entry} {n : ℕ} {t : Term} {ls : List ℕ} → Writes es n t ls → (rest : List ℕ) (us : Terms) (ms : List ℕ) → Write es rest us ms → Top es rest n (part t us) (ls ++ ms)
top-writes (line {n = n} {t = t} {ps = ps} {ls = ls} l w) rest us ms v =
    record { term = t; below = ps; lines = ls; terms-after = us; left_after = ms; says = l; writes = w; writes-after = v; terms_are = refl; left_is = refl }

top_of : {es : List Entry} {ps : List ℕ} {ts : Terms} {ls : List ℕ} → Write es ps ts ls → (n : ℕ) (rest : List ℕ) → ps ≡ n ∷ rest → Top es rest n ts ls
top_of no_parts n rest e = absurd (let z : ◌≡◌ {A = ℕ} 0 1 = cc in omega arith)
top_of {es = es} (more_parts {p = p} {ps = ps} {t = t} {ts = ts} {ls = ls} {ms = ms} w ws) n rest e =
    let a : p ≡ n = cc in
    let b : ps ≡ rest = cc in
    subst (λ (x : ℕ). Top es rest x (part t ts) (ls ++ ms)) a (top-writes w rest ts ms (subst (λ (xs : List ℕ). Write es xs ts ms) b ws))

reverse_push : (xs : List ℕ) (n : ℕ) → reverse (xs ++ (n ∷ [])) ≡ n ∷ reverse xs
reverse_push xs n = reverse-append xs (n ∷ [])

top : (es : List Entry) (stack rest : List ℕ) (n : ℕ) (table : List LocatedNode) → stack ≡ rest ++ (n ∷ []) → (u : Underway es stack table) → Top es (reverse rest) n u.terms u.left
top es stack rest n table e u = top_of u.writes n (reverse rest) (ap reverse e ∙ reverse_push rest n)

abbrev pub located : Kind → ℕ → LocatedNode
located k n = record { node = node_of k; line = n }

-- One node more.
steps : (es : List Entry) (stack rest after : List ℕ) (n : ℕ) (table table' : List LocatedNode) (u : Underway es stack table) → (t : Top es (reverse rest) n u.terms u.left) → after ≡ rest ++ reverse t.below → table' ≡ table ++ (located (kind_of t.term) n ∷ []) → Underway es after table'
steps es stack rest after n table table' u t a e =
    let nodes : List Node = nodes_in table in
    let lines : List ℕ = lines_in table in
    let b : nodes_in table' ≡ nodes ++ (node_of (kind_of t.term) ∷ []) = ap nodes_in e ∙ map-append (λ (m : LocatedNode). m.node) table (located (kind_of t.term) n ∷ []) in
    let d : lines_in table' ≡ lines ++ (n ∷ []) = ap lines_in e ∙ map-append (λ (m : LocatedNode). m.line) table (located (kind_of t.term) n ∷ []) in
    let x : Term = t.term in
    let us : Terms = t.terms-after in
    let r : reverse after ≡ t.below ++ reverse rest = ap reverse a ∙ reverse-append rest (reverse t.below) ∙ ap (λ ys. ys ++ reverse rest) (reverse-reverse t.below) in
    let f : flats u.terms ≡ node_of (kind_of x) ∷ flats (join (parts x) us) =
    ap flats t.terms_are ∙ ap (λ xs. xs ++ flats us) (flat-node x) ∙ ap (λ xs. node_of (kind_of x) ∷ xs) (sym (flats-join (parts x) us)) in
    record {
      whole = u.whole;
      terms = join (parts x) us;
      left = t.lines ++ t.left_after;
      writes = subst (λ (ps : List ℕ). Write es ps (join (parts x) us) (t.lines ++ t.left_after)) (sym r) (write_append t.writes (reverse rest) us t.left_after t.writes-after);
      nodes_whole =
          ap (λ xs. xs ++ flats (join (parts x) us)) b ∙ append_assoc nodes (node_of (kind_of x) ∷ []) (flats (join (parts x) us))
          ∙ ap (λ xs. nodes ++ xs) (sym f) ∙ u.nodes_whole;
      lines-whole =
          ap (λ xs. xs ++ (t.lines ++ t.left_after)) d ∙ append_assoc lines (n ∷ []) (t.lines ++ t.left_after)
          ∙ ap (λ xs. lines ++ xs) (sym t.left_is) ∙ u.lines-whole;
    }

-- With no line pending the whole is there.
write_none : {es : List Entry} {ps : List ℕ} {ts : Terms} {ls : List ℕ} → Write es ps ts ls → ps ≡ [] → (ts ≡ none) × (ls ≡ [])
write_none no_parts e = (refl, refl)
write_none (more_parts w ws) e = absurd (let z : ◌≡◌ {A = ℕ} 0 1 = cc in omega arith)

pub ended : (es : List Entry) (stack : List ℕ) (table : List LocatedNode) → stack ≡ [] → Underway es stack table → Tabled es table
ended es stack table e u =
    let n = write_none u.writes (ap reverse e) in
    let nodes : List Node = nodes_in table in
    let lines : List ℕ = lines_in table in
    let l : lines ≡ u.whole.lines = sym (append-nil lines) ∙ ap (λ xs. lines ++ xs) (sym n.1) ∙ u.lines-whole in
    record {
      term = u.whole.term;
      writes = subst (λ (xs : List ℕ). Writes es (length es) u.whole.term xs) (sym l) u.whole.writes;
      nodes_are = sym (append-nil nodes) ∙ ap (λ ts. nodes ++ flats ts) (sym n.0) ∙ u.nodes_whole;
    }

-- There is room for what is still to come.
mutual
  writes_some : {es : List Entry} {n : ℕ} {t : Term} {ls : List ℕ} → Writes es n t ls → 1 ≤ length ls
  writes_some (line l w) = omega arith

  write_long : {es : List Entry} {ps : List ℕ} {ts : Terms} {ls : List ℕ} → Write es ps ts ls → length ps ≤ length ls
  write_long no_parts = omega arith
  write_long (more_parts {ls = ls} {ms = ms} w ws) = omega (arith, writes_some w, write_long ws, length-append ls ms)

whole-few : (es : List Entry) (stack : List ℕ) (table : List LocatedNode) → Placed es → (u : Underway es stack table) → length table + length u.left ≤ length es
whole-few es stack table p u =
    omega (arith, length-map table (λ n. n.line), length-append (lines_in table) u.left, ap length u.lines-whole, few 1 (length es) u.whole.lines (writes-range u.whole.writes) (writes-once es u.whole.term u.whole.lines p u.whole.writes))

-- The entry of a line of the code.
line-entry : {es : List Entry} {n : ℕ} {e : Entry} → Line es n e → (xs : List CodeLine) (d : CodeLine) → es ≡ entries xs → e ≡ entry (get_or xs (n - 1) d)
line-entry first_line [] d h = absurd (let z : ◌≡◌ {A = ℕ} 0 1 = cc in omega arith)
line-entry first_line (x ∷ xs) d h = cc
line-entry (later_line l) [] d h = absurd (let z : ◌≡◌ {A = ℕ} 0 1 = cc in omega arith)
line-entry {n = n} (later_line {n = m} l) (x ∷ xs) d h =
    let g = line-entry l xs d (cc) in
    let r = line-range l in
    let k : suc (m - 1) ≡ suc m - 1 = omega arith in
    g ∙ ap (λ i. entry (get_or (x ∷ xs) i d)) k

-- One turn of the walk, which takes the line n from the stack.
pub record Turn (xs : List CodeLine) (rest : List ℕ) (n : ℕ) (table : List LocatedNode) : Type 0 where
  pub low : 1 ≤ n
  pub high : n ≤ length xs
  pub few : length xs ≤ 4096
  pub room : length table < length xs
  pub stack_room : (x : CodeLine) → x ≡ get_or xs (n - 1) x → length rest + length x.parts ≤ length xs
  pub next : (x : CodeLine) → x ≡ get_or xs (n - 1) x → (after : List ℕ) (table' : List LocatedNode) → after ≡ rest ++ reverse x.parts → table' ≡ table ++ (located x.kind n ∷ []) → Underway (entries xs) after table'

pub turn : (xs : List CodeLine) (stack rest : List ℕ) (n : ℕ) (table : List LocatedNode) → (bs : List ℕ) → Says bs (entries xs) → stack ≡ rest ++ (n ∷ []) → Underway (entries xs) stack table → Turn xs rest n table
turn xs stack rest n table bs s e u =
    let es : List Entry = entries xs in
    let t = top es stack rest n table e u in
    let r = line-range t.says in
    let m : length es ≡ length xs = length-map xs entry in
    let w = whole-few es stack table s.begins.placed u in
    let l : length u.left ≡ 1 + (length t.lines + length t.left_after) = omega (arith, ap length t.left_is, length-append t.lines t.left_after) in
    let a = write_long t.writes in
    let b = write_long t.writes-after in
    record {
      low = r.0;
      high = omega (arith, r.1);
      few = omega (arith, few-lines bs es [] s.begins);
      room = omega arith;
      stack_room = λ x d.
          let q : (kind_of t.term, t.below) ≡ entry x = line-entry t.says xs x refl ∙ ap entry (sym d) in
          let k : length t.below ≡ length x.parts = ap (λ (y : Entry). length y.1) q in
          omega (arith, length-reverse rest);
      next = λ x d after table' f g.
          let q : (kind_of t.term, t.below) ≡ entry x = line-entry t.says xs x refl ∙ ap entry (sym d) in
          steps es stack rest after n table table' u t
          (f ∙ ap (λ (y : Entry). rest ++ reverse y.1) (sym q))
          (g ∙ ap (λ (y : Entry). table ++ (located y.0 n ∷ [])) (sym q));
    }
