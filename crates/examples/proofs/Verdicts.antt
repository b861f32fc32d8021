-- The verdicts of the table.
use Rattle.std.proofs.Common.{◌≡◌, ℕ, zero, suc, ◌<◌, ◌≤◌, false, List, [], ◌∷◌, ◌++◌, length, get_or, codes, refl, arith}
use Rattle.std.specs.Fmt.{digits}
use Rattle.std.proofs.lemmas.Bool.Decides.{nat_tests}
use Rattle.terms.specs.Term.{Term, var, wire, bit, bang, tuple, abs, none, part}
use Rattle.terms.specs.Flat.{wire_of, kind_parts}
use Rattle.terms.specs.declared.Kind.{Kind}
use Rattle.terms.specs.declared.Kind.TheVariants.{Variable, Wire, Constant, Bang, Tuple, Binder}
use Rattle.theory.specs.Acceptance.{slot, uses}
use Rattle.theory.proofs.Tested.{accepted_is_tested}
use Rattle.sheet.specs.Entry.{Entry, InRange, Each, Proper}
use Rattle.sheet.specs.Sheet.{text, times, line_ends, used, Earlier, Says}
use Rattle.sheet.specs.Reading.{first_line, later_line, line, no_parts, more_parts}
use Rattle.sheet.specs.declared.refusal.Rule.TheVariants.{Unbound as Rule-Unbound, Misused as Rule-Misused, Shut as Rule-Shut, Repeated as Rule-Repeated}
use Rattle.checker.specs.Faults.{here, in_bang, in_tuple, in_abs, in_part, in_rest, unbound, Misused, misused, shut_variable, Repeated, repeated}
use Rattle.checker.proofs.Showing.{site_is, within-size, unbound-shown, shut_shown}
use Rattle.checker.proofs.Faultless.{bounded_none, once_none, clear_none}
use Rattle.examples.specs.Table.{sheet, ReadsAs, Table}

-- No line is used twice, and each but the last is used.
one_once : (p : ℕ) → times p (1 ∷ []) ≤ 1
one_once p = grind (arith, nat_tests)

one_used : (k : ℕ) → 1 ≤ k → k < 2 → times k (1 ∷ []) ≡ 1
one_used k lo hi = grind (arith, nat_tests)

two_once : (p : ℕ) → times p (1 ∷ (2 ∷ [])) ≤ 1
two_once p = grind (arith, nat_tests)

two_used : (k : ℕ) → 1 ≤ k → k < 3 → times k (1 ∷ (2 ∷ [])) ≡ 1
two_used k lo hi = grind (arith, nat_tests)

-- Lines with parts or without are proper.
leaf : (k : Kind) → InRange k → 0 ≡ kind_parts k → Proper (k, [])
leaf k r e = record { own_range = r; part_count = e; part_range = tt }

above : (k : Kind) (p : ℕ) → InRange k → 1 ≡ kind_parts k → 1 ≤ p → p ≤ 4096 → Proper (k, p ∷ [])
above k p r e lo hi = record { own_range = r; part_count = e; part_range = ((lo, hi), tt) }

said : (bs : List ℕ) (es : List Entry) → 0 < length bs → length bs ≤ 65536 → line_ends bs ≤ 4096 → bs ≡ text es ++ [] → Each Proper es → Earlier 1 es → ((p : ℕ) → times p (used es) ≤ 1) → ((k : ℕ) → 1 ≤ k → k < length es → times k (used es) ≡ 1) → Says bs es
said bs es s m n b p e o u = record { begins = record { sized = record { some = s; bytes = m; ends = n }; begin = b; proper = p; placed = record { earlier = e; once = o } }; all_used = u }

-- What each sheet says.
linear_unused_reads : ReadsAs (sheet (codes "c 0;l 1 1;")) (abs 1 (bit false)) (2 ∷ (1 ∷ []))
unfolding digits
linear_unused_reads = record {
  entries = (Constant false, []) ∷ ((Binder 1, 1 ∷ []) ∷ []);
  says = said _ _ (omega arith) (omega arith) (omega arith) refl (leaf (Constant false) tt refl, (above (Binder 1) 1 (omega arith) refl (omega arith) (omega arith), tt)) (tt, ((omega arith, tt), tt)) one_once one_used;
  writes = line (later_line first_line) (more_parts (line first_line no_parts) no_parts);
}

bang_unused_reads : ReadsAs (sheet (codes "c 0;l 0 1;")) (abs 0 (bit false)) (2 ∷ (1 ∷ []))
unfolding digits
bang_unused_reads = record {
  entries = (Constant false, []) ∷ ((Binder 0, 1 ∷ []) ∷ []);
  says = said _ _ (omega arith) (omega arith) (omega arith) refl (leaf (Constant false) tt refl, (above (Binder 0) 1 (omega arith) refl (omega arith) (omega arith), tt)) (tt, ((omega arith, tt), tt)) one_once one_used;
  writes = line (later_line first_line) (more_parts (line first_line no_parts) no_parts);
}

no_binder_reads : ReadsAs (sheet (codes "v 0 0;")) (var 0 0) (1 ∷ [])
unfolding digits
no_binder_reads = record {
  entries = (Variable 0 0, []) ∷ [];
  says = said _ _ (omega arith) (omega arith) (omega arith) refl (leaf (Variable 0 0) (omega arith, omega arith) refl, tt) (tt, tt) (λ p. omega arith) (λ k lo hi. absurd (omega arith));
  writes = line first_line no_parts;
}

bang_inside_reads : ReadsAs (sheet (codes "v 0 0;b 1;l 1 2;")) (abs 1 (bang (var 0 0))) (3 ∷ (2 ∷ (1 ∷ [])))
unfolding digits
bang_inside_reads = record {
  entries = (Variable 0 0, []) ∷ ((Bang, 1 ∷ []) ∷ ((Binder 1, 2 ∷ []) ∷ []));
  says = said _ _ (omega arith) (omega arith) (omega arith) refl (leaf (Variable 0 0) (omega arith, omega arith) refl, (above Bang 1 tt refl (omega arith) (omega arith), (above (Binder 1) 2 (omega arith) refl (omega arith) (omega arith), tt))) (tt, ((omega arith, tt), ((omega arith, tt), tt))) two_once two_used;
  writes = line (later_line (later_line first_line)) (more_parts (line (later_line first_line) (more_parts (line first_line no_parts) no_parts)) no_parts);
}

bang_outside_reads : ReadsAs (sheet (codes "v 0 0;l 1 1;b 2;")) (bang (abs 1 (var 0 0))) (3 ∷ (2 ∷ (1 ∷ [])))
unfolding digits
bang_outside_reads = record {
  entries = (Variable 0 0, []) ∷ ((Binder 1, 1 ∷ []) ∷ ((Bang, 2 ∷ []) ∷ []));
  says = said _ _ (omega arith) (omega arith) (omega arith) refl (leaf (Variable 0 0) (omega arith, omega arith) refl, (above (Binder 1) 1 (omega arith) refl (omega arith) (omega arith), (above Bang 2 tt refl (omega arith) (omega arith), tt))) (tt, ((omega arith, tt), ((omega arith, tt), tt))) two_once two_used;
  writes = line (later_line (later_line first_line)) (more_parts (line (later_line first_line) (more_parts (line first_line no_parts) no_parts)) no_parts);
}

abbrev two_wires : Term
two_wires = tuple (part (wire 3) (part (wire 3) none))

wire_twice_reads : ReadsAs (sheet (codes "w 3;w 3;t 1 2;")) two_wires (3 ∷ (1 ∷ (2 ∷ [])))
unfolding digits
wire_twice_reads = record {
  entries = (Wire (wire_of 3), []) ∷ ((Wire (wire_of 3), []) ∷ ((Tuple 2, 1 ∷ (2 ∷ [])) ∷ []));
  says = said _ _ (omega arith) (omega arith) (omega arith) refl (leaf (Wire (wire_of 3)) (omega arith) refl, (leaf (Wire (wire_of 3)) (omega arith) refl, (record { own_range = (omega arith, omega arith); part_count = refl; part_range = ((omega arith, omega arith), ((omega arith, omega arith), tt)) }, tt))) (tt, (tt, ((omega arith, (omega arith, tt)), tt))) two_once two_used;
  writes = line (later_line (later_line first_line)) (more_parts (line first_line no_parts) (more_parts (line (later_line first_line) no_parts) no_parts));
}

-- Node 1 is a constant and no binder.
misused_first : (n : ℕ) → Misused (abs 1 (bit false)) n → 2 ≤ get_or (2 ∷ (1 ∷ [])) n 0
misused_first zero m = omega arith
misused_first (suc zero) (misused {H = H} {c = c} {k = k} {s = s} a lt u) = let e = site_is (abs 1 (bit false)) 1 H c (abs k s) a in let z : ◌≡◌ {A = ℕ} 0 1 = cc in absurd (omega arith)
misused_first (suc (suc n)) (misused {H = H} {c = c} {k = k} {s = s} a lt u) = absurd (omega (arith, within-size (abs 1 (bit false)) (suc (suc n)) H c (abs k s) a))

-- The variable is used once, in a bang.
once_inside : (p : ℕ) → p < 1 → uses (slot 0 p) (bang (var 0 0)) ≡ 1
once_inside zero lt = refl
once_inside (suc p) lt = absurd (omega arith)

-- Each node stands on a line.
on_line : (ls : List ℕ) → Each (λ l. 1 ≤ l) ls → (n : ℕ) → n < length ls → 1 ≤ get_or ls n 0
on_line [] h n lo = absurd (omega arith)
on_line (l ∷ ls) h zero lo = h.0
on_line (l ∷ ls) h (suc n) lo = on_line ls h.1 n (omega arith)

repeated_first : (n : ℕ) → Repeated two_wires (3 ∷ (1 ∷ (2 ∷ []))) n → 2 ≤ get_or (3 ∷ (1 ∷ (2 ∷ []))) n 0
repeated_first n (repeated {K = K} {d = d} {m = m} {w = w} a b lt) = omega (arith, on_line (3 ∷ (1 ∷ (2 ∷ []))) (omega arith, (omega arith, (omega arith, tt))) m (within-size two_wires m K d (wire w) b))

pub table : Table
table = record {
  linear_unused = record { term = _; lines = _; reads = linear_unused_reads; rule = Rule-Misused; numbered = refl; breaks = (bounded_none _ tt, record { node = 0; breaks = misused {p = 0} here (omega arith) (λ e. omega arith); line = refl; first = misused_first }) };
  bang_unused = record { term = _; lines = _; reads = bang_unused_reads; accepted = (accepted_is_tested _).1 refl };
  no_binder = record { term = _; lines = _; reads = no_binder_reads; rule = Rule-Unbound; numbered = refl; breaks = record { node = 0; breaks = unbound here (λ b. b); line = refl; first = λ n f. on_line (1 ∷ []) (omega arith, tt) n ((unbound-shown _).low n f) } };
  bang_inside = record { term = _; lines = _; reads = bang_inside_reads; rule = Rule-Shut; numbered = refl; breaks = (bounded_none _ (omega arith), once_none _ (tt, once_inside), record { node = 2; breaks = shut_variable (in_abs (in_bang here)) (omega arith) (omega arith); line = refl; first = λ n f. on_line (3 ∷ (2 ∷ (1 ∷ []))) (omega arith, (omega arith, (omega arith, tt))) n ((shut_shown _).low n f) }) };
  bang_outside = record { term = _; lines = _; reads = bang_outside_reads; accepted = (accepted_is_tested _).1 refl };
  wire_twice = record { term = _; lines = _; reads = wire_twice_reads; rule = Rule-Repeated; numbered = refl; breaks = (bounded_none _ (tt, (tt, tt)), once_none _ (tt, (tt, tt)), clear_none _ (tt, (tt, tt)), record { node = 2; breaks = repeated (in_tuple (in_rest (in_part here))) (in_tuple (in_part here)) (omega arith); line = refl; first = repeated_first }) };
}
