use Rattle.std.proofs.Common.{◌≡◌, ℕ, List, [], ◌∷◌, ◌++◌, length, reverse, vec_items, vec_len, sym, refl, ap, ◌∙◌, arith}
use Rattle.std.proofs.lemmas.List.{length-map}
use Rattle.sheet.specs.Entries.{entry, entries}
use Rattle.sheet.specs.declared.line.Line.{Line}
use Rattle.sheet.proofs.Beginning.{few-lines}
use Rattle.sheet.proofs.Stacking.{starts, Turn, turn}
use Rattle.sheet.proofs.storage.ReadStorage.fill_table.Goals as goal
use Rattle.sheet.proofs.storage.ReadStorage.fill_table.Goals.{In-Some}

pub overflow_cast-len : goal.overflow_cast-len
overflow_cast-len c =
    let xs : List Line = vec_items c.args.self.now.sheet_lines in
    omega (arith, few-lines c.requires.said.0 (entries xs) [] c.requires.said.1.begins, length-map xs entry, c.len.ensures, c.args.self.now.sheet_lines.ok.0)

pub loop-line-init : goal.loop-line-init
loop-line-init c =
    let xs : List Line = vec_items c.args.self.now.sheet_lines in
    let m : length (entries xs) ≡ length xs = length-map xs entry in
    let k : length (entries xs) ≡ c.len.result = omega (arith, c.len.ensures, c.args.self.now.sheet_lines.ok.0) in
    let p : vec_items c.push_reserved.new.self ≡ length (entries xs) ∷ [] =
    c.push_reserved.ensures.items ∙ ap (λ ys. ys ++ (c.len.result ∷ [])) c.clear.ensures.items ∙ ap (λ n. n ∷ []) (sym k) in (
      refl,
      starts (entries xs) _ _ c.requires.said.0 c.requires.said.1 p c.clear-2.ensures.items,
      omega (arith, c.clear-2.ensures.capacity, c.requires.room),
    )

-- What the line on top of the stack says.
taken : (c : goal.In-Some) → Turn (vec_items c.args.self.now.sheet_lines) (vec_items c.pop.new.self) c.in-Some.line (vec_items c.loop-line.table)
taken c = turn (vec_items c.args.self.now.sheet_lines) (vec_items c.loop-line.self.pending) (vec_items c.pop.new.self) c.in-Some.line (vec_items c.loop-line.table) c.requires.said.0 c.requires.said.1 c.in-Some.ensures.items c.loop-line.invariant.1

pub overflow_sub-line : goal.overflow_sub-line
overflow_sub-line c = (taken (goal.at.overflow_sub-line c).In-Some).low

pub index-requires : goal.index-requires
index-requires c = let t = taken (goal.at.index-requires c).In-Some in omega (arith, t.low, t.high, c.args.self.now.sheet_lines.ok.0, ap vec_len c.loop-line.invariant.0)

pub push_reserved-requires-in-Some : goal.push_reserved-requires-in-Some
push_reserved-requires-in-Some c =
    let t = taken (goal.at.push_reserved-requires-in-Some c).In-Some in
    omega (arith, t.room, t.few, c.loop-line.table.ok.0, c.loop-line.invariant.2)

pub push_all-requires : goal.push_all-requires
push_all-requires c =
    let t = taken (goal.at.push_all-requires c).In-Some in
    omega (arith, t.stack_room c.index.result.now (cc), ap (λ (ns : List ℕ). length ns) c.as_slice.ensures.numbers, t.few, c.pop.new.self.ok.0, c.in-Some.ensures.capacity, c.loop-line.self.pending_room)

pub loop-line-smaller : goal.loop-line-smaller
loop-line-smaller c =
    let t = taken (goal.at.loop-line-smaller c).In-Some in
    omega (arith, t.room, t.few, c.loop-line.table.ok.0, c.push_reserved-in-Some.ensures.len)

pub loop-line-preserved : goal.loop-line-preserved
loop-line-preserved c = (
  c.loop-line.invariant.0,
  (taken (goal.at.loop-line-preserved c).In-Some).next c.index.result.now (cc) _ _ (c.push_all.ensures.items ∙ ap (λ (ns : List ℕ). vec_items c.pop.new.self ++ reverse ns) c.as_slice.ensures.numbers) c.push_reserved-in-Some.ensures.items,
  omega (arith, c.push_reserved-in-Some.ensures.capacity, c.loop-line.invariant.2),
)
