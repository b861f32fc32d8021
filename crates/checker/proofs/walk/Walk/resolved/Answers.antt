use Rattle.std.proofs.Common.{length, inl, inr, refl, sym, ◌≡◌, ◌-◌, arith}
use Rattle.std.proofs.lemmas.Bool.{cases_lt}
use Rattle.checker.proofs.Resolve.{resolve_stack, resolve_none}
use Rattle.checker.proofs.walk.Walk.resolved.Goals as goal

pub returns-in-Some : goal.returns-in-Some
returns-in-Some c =
    let xs = c.args.self.now.frames.items in
    let l : c.len.result ≡ length xs = omega (arith, c.len.ensures, c.args.self.now.frames.ok.0) in
    let e = c.in-Some.ensures in
    let k : c.in-Some.index ≡ length xs - 1 - c.args.up = omega (arith, e.1, l) in
    sym (resolve_stack xs (length xs) c.args.bangs c.args.up c.args.place c.index-frame.result.now refl (omega (arith, e.0, l)) (rw (← k) c.index-frame.ensures))

pub returns-in-None : goal.returns-in-None
returns-in-None c =
    let l : c.len.result ≡ length c.args.self.now.frames.items = omega (arith, c.len.ensures, c.args.self.now.frames.ok.0) in
    sym (resolve_none c.args.self.now.frames.items c.args.bangs c.args.up c.args.place (elim (cases_lt c.args.up (length c.args.self.now.frames.items)) [ inl g ↦ absurd (c.in-None.ensures (omega arith)) | inr g ↦ g ]))
