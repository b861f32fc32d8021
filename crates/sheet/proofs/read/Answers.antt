use Rattle.std.proofs.Common.{vec_items, arith}
use Rattle.sheet.specs.Entries.{entries}
use Rattle.sheet.proofs.Filled.{Filled, filled}
use Rattle.sheet.proofs.read.Goals as goal
use Rattle.sheet.proofs.read.Goals.{After-fill_table}

-- What the place now holds.
held : (c : goal.After-fill_table) → Filled (entries (vec_items c.read_lines.new.self.sheet_lines)) (vec_items c.fill_table.new.table)
held c = filled c.args.sheet.now (entries (vec_items c.read_lines.new.self.sheet_lines)) (vec_items c.fill_table.new.table) c.in_ok-read_lines.ensures.begins c.fill_table.ensures.tabled

pub invariant_of-place : goal.invariant_of-place
invariant_of-place c =
    let f = held (goal.at.invariant_of-place c).After-fill_table in
    let n = c.fill_table.new.table.ok.0 in
    record {
      tree = f.tree;
      formed = f.formed;
      few = omega (arith, f.few_nodes);
      numbered = λ k h. f.numbered k (omega arith);
      apart = f.apart;
      room = c.fill_table.ensures.room;
    }

pub returns : goal.returns
returns c =
    record {
      entries = entries (vec_items c.read_lines.new.self.sheet_lines);
      says = c.in_ok-read_lines.ensures;
      writes = (held (goal.at.returns c).After-fill_table).writes;
    }
