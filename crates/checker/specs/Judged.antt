-- The verdict, told from the sites.
use Rattle.std.specs.Prelude.{ℕ, List, Some, None, Ok, Err, Result}
use Rattle.sheet.specs.declared.refusal.Rule.{Rule}
use Rattle.sheet.specs.declared.refusal.Rule.TheVariants.{Form, Size, Part, Unbound, Misused, Shut, Repeated}
use Rattle.sheet.specs.declared.refusal.Refusal.{Refusal}
use Rattle.checker.specs.declared.role.Role.{Role}
use Rattle.checker.specs.Found.{Found, UnboundSite, ShutSite}
use Rattle.checker.specs.Counts.{MisuseSite}
use Rattle.checker.specs.Firsts.{RepeatSite}

-- The first rule that the sites break, and the smallest line that breaks it.
abbrev pub BreaksSites : List Role → List ℕ → Rule → ℕ → Type 0
BreaksSites xs lines Form l = ⊥
BreaksSites xs lines Size l = ⊥
BreaksSites xs lines Part l = ⊥
BreaksSites xs lines Unbound l = Found (UnboundSite xs) lines (Some l)
BreaksSites xs lines Misused l = Found (UnboundSite xs) lines None × Found (MisuseSite xs) lines (Some l)
BreaksSites xs lines Shut l = Found (UnboundSite xs) lines None × Found (MisuseSite xs) lines None × Found (ShutSite xs) lines (Some l)
BreaksSites xs lines Repeated l = Found (UnboundSite xs) lines None × Found (MisuseSite xs) lines None × Found (ShutSite xs) lines None × Found (RepeatSite xs lines) lines (Some l)

abbrev pub Judged : List Role → List ℕ → Result (Unit {0}) Refusal → Type 0
Judged xs lines (Ok _) = Found (UnboundSite xs) lines None × Found (MisuseSite xs) lines None × Found (ShutSite xs) lines None × Found (RepeatSite xs lines) lines None
Judged xs lines (Err f) = BreaksSites xs lines f.rule f.line
