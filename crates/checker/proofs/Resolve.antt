-- The binder of a variable in a stack of frames.
use Rattle.std.proofs.Common.{◌≡◌, ℕ, zero, suc, ◌-◌, ◌<◌, ◌≤◌, ltb, List, [], ◌∷◌, reverse, length, get_or, sym, refl, ap, ◌∙◌, arith}
use Rattle.std.proofs.lemmas.List.{get_or-reverse, length-reverse}
use Rattle.checker.specs.declared.role.Frame.{Frame}
use Rattle.checker.specs.declared.role.Role.TheVariants.{Free, Use}
use Rattle.checker.specs.Faults.{Scope}
use Rattle.checker.specs.Sites.{resolve}

resolve-past : (G : Scope) (c u p : ℕ) → length G ≤ u → resolve G c u p ≡ Free
resolve-past [] c u p h = refl
resolve-past (f ∷ G) c zero p h = absurd (omega arith)
resolve-past (f ∷ G) c (suc u) p h = resolve-past G c u p (omega arith)

resolve_at : (G : Scope) (c u p : ℕ) (d : Frame) → u < length G → resolve G c u p ≡ Use (get_or G u d).number (get_or G u d).pattern p (ltb (get_or G u d).depth c)
resolve_at [] c u p d h = absurd (omega arith)
resolve_at (f ∷ G) c zero p d h = refl
resolve_at (f ∷ G) c (suc u) p d h = resolve_at G c u p d (omega arith)

-- In a stack the nearest frame comes last, and f is read from its end.
pub resolve_stack : (xs : List Frame) (n c u p : ℕ) (f : Frame) → n ≡ length xs → u < n → f ≡ get_or xs (n - 1 - u) f → resolve (reverse xs) c u p ≡ Use f.number f.pattern p (ltb f.depth c)
resolve_stack xs n c u p f e h r =
    let k : u < length xs = omega arith in
    let l : u < length (reverse xs) = rw (length-reverse xs) k in
    let g : get_or (reverse xs) u f ≡ f = get_or-reverse xs u f k ∙ ap (λ (m : ℕ). get_or xs (m - 1 - u) f) (sym e) ∙ sym r in
    resolve_at (reverse xs) c u p f l ∙ ap (λ (x : Frame). Use x.number x.pattern p (ltb x.depth c)) g

pub resolve_none : (xs : List Frame) (c u p : ℕ) → length xs ≤ u → resolve (reverse xs) c u p ≡ Free
resolve_none xs c u p h = resolve-past (reverse xs) c u p (rw (length-reverse xs) h)
