-- A table that a sheet's lines make is a program's.
use Rattle.std.proofs.Common.{◌≡◌, ℕ, ◌<◌, ◌≤◌, true, List, [], length, get_or, sym, ap, ◌∙◌, subst, arith}
use Rattle.std.proofs.lemmas.List.{length-map}
use Rattle.terms.specs.Term.{Term}
use Rattle.terms.specs.Shape.{shaped}
use Rattle.terms.specs.Parse.{term, HoldsTerm}
use Rattle.terms.specs.declared.Node.{Node}
use Rattle.terms.proofs.Parsing.{term_is, holds-term}
use Rattle.terms.proofs.Shaping.{is_shaped}
use Rattle.sheet.specs.Entry.{Entry}
use Rattle.sheet.specs.Sheet.{times, Begins}
use Rattle.sheet.specs.Located.{nodes_in, lines_in}
use Rattle.sheet.specs.Reading.{Writes}
use Rattle.sheet.specs.Tables.{Tabled}
use Rattle.sheet.specs.declared.located.LocatedNode.{LocatedNode}
use Rattle.sheet.proofs.Beginning.{few-lines}
use Rattle.sheet.proofs.Times.{few}
use Rattle.sheet.proofs.Writing.{each_at, InLines, writes-range, writes-once, writes-shaped}

pub record Filled (es : List Entry) (table : List LocatedNode) : Type 0 where
  pub tree : HoldsTerm (nodes_in table)
  pub formed : shaped (term (nodes_in table)) ≡ true
  pub few_nodes : length table ≤ 4096
  pub numbered : (n : ℕ) → n < length table → (1 ≤ get_or (lines_in table) n 0) × (get_or (lines_in table) n 0 ≤ 4096)
  pub apart : (k : ℕ) → times k (lines_in table) ≤ 1
  pub writes : Writes es (length es) (term (nodes_in table)) (lines_in table)

pub filled : (bs : List ℕ) (es : List Entry) (table : List LocatedNode) → Begins bs es [] → Tabled es table → Filled es table
filled bs es table b t =
    let nodes : List Node = nodes_in table in
    let lines : List ℕ = lines_in table in
    let paired : length lines ≡ length table = length-map table (λ n. n.line) in
    let w = t.writes in
    let i : term nodes ≡ t.term = term_is nodes t.term t.nodes_are in
    let o = writes-once es t.term lines b.placed w in
    let r = writes-range w in
    let k = few 1 (length es) lines r o in
    let m = few-lines bs es [] b in
    record {
      tree = holds-term nodes t.term t.nodes_are;
      formed = ap shaped i ∙ is_shaped t.term (writes-shaped w b.proper);
      few_nodes = omega arith;
      numbered = λ j h. let q = each_at (InLines es) lines j r (omega arith) in (q.0, omega (arith, q.1));
      apart = o;
      writes = subst (λ (u : Term). Writes es (length es) u lines) (sym i) w;
    }
