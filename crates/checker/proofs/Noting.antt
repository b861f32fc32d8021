-- The smallest line of each wire, noted site by site and wiped again.
use Rattle.std.proofs.Common.{◌≡◌, ℕ, ◌+◌, ◌<◌, ◌≤◌, Bool, true, false, ◌≢◌, ◌⊎◌, List, length, get_or, set, Some, None, Option, sym, refl, ap, ◌∙◌, inl, inr, arith, length-set, ltb-true, lt-ltb, eq-eqb, ne_eqb, eqb-true, below_more}
use Rattle.std.proofs.lemmas.List.{get_or-set_same, get_or-set_other, length-map}
use Rattle.std.proofs.lemmas.Bool.{cases_eq, cases_lt}
use Rattle.checker.specs.declared.role.Role.{Role}
use Rattle.checker.specs.declared.role.Role.TheVariants.{Other, Free, Use, Lead, Opening}
use Rattle.checker.specs.Roles.{Ranged, is_lead}
use Rattle.checker.specs.Found.{roles, site_lines, Found, least_line}
use Rattle.checker.specs.Firsts.{RepeatSite, earlier, noted, is_before, repeated_role, wiped}
use Rattle.checker.specs.declared.site.Site.{Site}
use Rattle.checker.proofs.Finding.{Passes, least_found, found_same}
use Rattle.checker.proofs.Sited.{ranged_at}

-- A wire that stands among the first k sites on the line l.
pub record Stood (xs : List Role) (lines : List ℕ) (k w l : ℕ) : Type 0 where
  pub node : ℕ
  pub low : node < k
  pub here : is_lead w (get_or xs node Other) ≡ true
  pub line : get_or lines node 0 ≡ l

-- What is noted of the wire w after the first k sites.
abbrev pub FirstLine : List Role → List ℕ → ℕ → ℕ → Option ℕ → Type 0
FirstLine xs lines k w None = (n : ℕ) → n < k → is_lead w (get_or xs n Other) ≡ true → ⊥
FirstLine xs lines k w (Some l) = Stood xs lines k w l × ((n : ℕ) → n < k → is_lead w (get_or xs n Other) ≡ true → l ≤ get_or lines n 0)

-- The smallest line of each wire among the first k sites.
abbrev pub Firsts : List Role → List ℕ → List (Option ℕ) → ℕ → Type 0
Firsts xs lines F k = (w : ℕ) → w < length F → FirstLine xs lines k w (get_or F w None)

-- The wire w stands at a site from the number k on.
pub record StandsFrom (xs : List Role) (k w : ℕ) : Type 0 where
  pub node : ℕ
  pub from : k ≤ node
  pub low : node < length xs
  pub here : is_lead w (get_or xs node Other) ≡ true

-- A wire has a line only if it stands at a site from the number k on.
abbrev pub Wiped : List Role → List (Option ℕ) → ℕ → Type 0
Wiped xs F k = (w : ℕ) → w < length F → (get_or F w None ≡ None) ⊎ StandsFrom xs k w

-- A site more.
module _ (xs : List Role) (lines : List ℕ) (k w : ℕ) where
  stood_more : (l : ℕ) → Stood xs lines k w l → Stood xs lines (k + 1) w l
  stood_more l s = record { node = s.node; low = omega (arith, s.low); here = s.here; line = s.line }

  passed : (o : Option ℕ) → is_lead w (get_or xs k Other) ≡ false → FirstLine xs lines k w o → FirstLine xs lines (k + 1) w o
  passed None z f = below_more _ k f (λ h. absurd (cc (z, h)))
  passed (Some l) z f = (stood_more l f.0, below_more _ k f.1 (λ h. absurd (cc (z, h))))

  met : (o : Option ℕ) (l : ℕ) → get_or lines k 0 ≡ l → is_lead w (get_or xs k Other) ≡ true → FirstLine xs lines k w o → FirstLine xs lines (k + 1) w (Some (earlier o l))
  met None l e h f = (
    record { node = k; low = omega arith; here = h; line = e },
    below_more (λ n. is_lead w (get_or xs n Other) ≡ true → l ≤ get_or lines n 0) k (λ n lo q. absurd (f n lo q)) (λ q. omega (arith, e)),
  )
  met (Some m) l e h f = (
    elim (cases_lt m l) [
      | inl g ↦ let s = stood_more m f.0 in record { node = s.node; low = s.low; here = s.here; line = omega (arith, s.line) }
      | inr g ↦ record { node = k; low = omega arith; here = h; line = omega (arith, e) }
    ],
    below_more (λ n. is_lead w (get_or xs n Other) ≡ true → earlier (Some m) l ≤ get_or lines n 0) k (λ n lo q. omega (arith, f.1 n lo q)) (λ q. omega (arith, e)),
  )

lead_here : (w v : ℕ) (y : Bool) (x : Role) → x ≡ Lead v y → w ≡ v → is_lead w x ≡ true
lead_here w v y x e z = ap (is_lead w) e ∙ eq-eqb w v z

lead_other : (w v : ℕ) (y : Bool) (x : Role) → x ≡ Lead v y → (w ≡ v → ⊥) → is_lead w x ≡ false
lead_other w v y x e z = ap (is_lead w) e ∙ ne_eqb w v z

module _ (xs : List Role) (lines : List ℕ) (F : List (Option ℕ)) (k : ℕ) (f : Firsts xs lines F k) where
  other_noted : ((w : ℕ) → is_lead w (get_or xs k Other) ≡ false) → Firsts xs lines F (k + 1)
  other_noted z w lo = passed xs lines k w (get_or F w None) (z w) (f w lo)

  lead_noted : (v l : ℕ) (y : Bool) → get_or xs k Other ≡ Lead v y → get_or lines k 0 ≡ l → v < length F → Firsts xs lines (set F v (Some (earlier (get_or F v None) l))) (k + 1)
  lead_noted v l y e i room w lo =
      let new = Some (earlier (get_or F v None) l) in
      elim (cases_eq w v) [
        | inl z ↦ rw (z, get_or-set_same F v new None room) (met xs lines k v (get_or F v None) l i (lead_here v v y _ e refl) (f v room))
        | inr z ↦ rw (get_or-set_other F v w new None z) (passed xs lines k w (get_or F w None) (lead_other w v y _ e z) (f w (omega (arith, lo, length-set F v new))))
      ]

  pub noted_more : (x : Role) (l : ℕ) → get_or xs k Other ≡ x → get_or lines k 0 ≡ l → 4096 ≤ length F → Ranged x → Firsts xs lines (noted x l F) (k + 1)
  noted_more Other l e i r g = other_noted (λ w. ap (is_lead w) e)
  noted_more Free l e i r g = other_noted (λ w. ap (is_lead w) e)
  noted_more (Use m j p y) l e i r g = other_noted (λ w. ap (is_lead w) e)
  noted_more (Lead v y) l e i r g = lead_noted v l y e i (omega arith)
  noted_more (Opening m j) l e i r g = other_noted (λ w. ap (is_lead w) e)

-- What the lines that were noted tell.
module _ (xs : List Role) (lines : List ℕ) (n v : ℕ) (y : Bool) (e : get_or xs n Other ≡ Lead v y) where
  before_repeats : (o : Option ℕ) → FirstLine xs lines (length xs) v o → is_before o (get_or lines n 0) ≡ true → RepeatSite xs lines n
  before_repeats None f t = absurd (cc t)
  before_repeats (Some l) f t = record { wire = v; other = f.0.node; low = f.0.low; here = lead_here v v y _ e refl; there = f.0.here; less = omega (arith, f.0.line, ltb-true l (get_or lines n 0) t) }

  repeats_before : (o : Option ℕ) → FirstLine xs lines (length xs) v o → (m : ℕ) → m < length xs → is_lead v (get_or xs m Other) ≡ true → get_or lines m 0 < get_or lines n 0 → is_before o (get_or lines n 0) ≡ true
  repeats_before None f m lo h l = absurd (f m lo h)
  repeats_before (Some k) f m lo h l = lt-ltb k (get_or lines n 0) (omega (arith, f.1 m lo h))

module _ (xs : List Role) (lines : List ℕ) (F : List (Option ℕ)) (n : ℕ) (room : 4096 ≤ length F) (f : Firsts xs lines F (length xs)) where
  repeated_told : (x : Role) → get_or xs n Other ≡ x → Ranged x → repeated_role F x (get_or lines n 0) ≡ true → RepeatSite xs lines n
  repeated_told Other e g t = absurd (cc t)
  repeated_told Free e g t = absurd (cc t)
  repeated_told (Use m j p y) e g t = absurd (cc t)
  repeated_told (Lead v y) e g t = before_repeats xs lines n v y e (get_or F v None) (f v (omega arith)) t
  repeated_told (Opening m j) e g t = absurd (cc t)

  repeated_shown : (x : Role) → get_or xs n Other ≡ x → Ranged x → RepeatSite xs lines n → repeated_role F x (get_or lines n 0) ≡ true
  repeated_shown Other e g r = absurd (cc (r.here, ap (is_lead r.wire) e))
  repeated_shown Free e g r = absurd (cc (r.here, ap (is_lead r.wire) e))
  repeated_shown (Use m j p y) e g r = absurd (cc (r.here, ap (is_lead r.wire) e))
  repeated_shown (Lead v y) e g r =
      let z : r.wire ≡ v = eqb-true r.wire v (sym (ap (is_lead r.wire) e) ∙ r.here) in
      repeats_before xs lines n v y e (get_or F v None) (f v (omega arith)) r.other r.low (rw (← z) r.there) r.less
  repeated_shown (Opening m j) e g r = absurd (cc (r.here, ap (is_lead r.wire) e))

pub repeats_found : (xs : List Site) (F : List (Option ℕ)) → 4096 ≤ length F → Firsts (roles xs) (site_lines xs) F (length xs) → Found (RepeatSite (roles xs) (site_lines xs)) (site_lines xs) (least_line (λ x. repeated_role F x.role x.line) xs)
repeats_found xs F room f =
    let g : Firsts (roles xs) (site_lines xs) F (length (roles xs)) = rw (length-map xs (λ x. x.role)) f in
    found_same (Passes (repeated_role F) xs) _ (site_lines xs) _
    (λ n lo p. repeated_told (roles xs) (site_lines xs) F n room g (get_or (roles xs) n Other) refl (ranged_at xs n) p)
    (λ n lo p. repeated_shown (roles xs) (site_lines xs) F n room g (get_or (roles xs) n Other) refl (ranged_at xs n) p)
    (least_found (repeated_role F) xs)

-- Wiping: a site that does not have the wire.
later_stands : (xs : List Role) (k w : ℕ) → is_lead w (get_or xs k Other) ≡ false → StandsFrom xs k w → StandsFrom xs (k + 1) w
later_stands xs k w z s = record { node = s.node; from = past (cases_eq s.node k); low = s.low; here = s.here }
  where
    past : (s.node ≡ k) ⊎ (s.node ≢ k) → k + 1 ≤ s.node
    past (inl e) = absurd (cc (z, s.here, ap (λ (n : ℕ). is_lead w (get_or xs n Other)) e))
    past (inr e) = omega (arith, s.from)

other_wiped : (xs : List Role) (F : List (Option ℕ)) (k : ℕ) → ((w : ℕ) → is_lead w (get_or xs k Other) ≡ false) → Wiped xs F k → Wiped xs F (k + 1)
other_wiped xs F k z h w lo = elim (h w lo) [ inl e ↦ inl e | inr s ↦ inr (later_stands xs k w (z w) s) ]

lead-wiped : (xs : List Role) (F : List (Option ℕ)) (k v : ℕ) (y : Bool) → get_or xs k Other ≡ Lead v y → Wiped xs F k → Wiped xs (set F v None) (k + 1)
lead-wiped xs F k v y e h w lo =
    let l : w < length F = omega (arith, length-set {A = Option ℕ} F v None) in
    elim (cases_eq w v) [
      | inl z ↦ inl (rw (z, get_or-set_same F v None None (omega arith)) refl)
      | inr z ↦ elim (h w l) [
        | inl d ↦ inl (rw (get_or-set_other F v w None None z) d)
        | inr s ↦ inr (later_stands xs k w (lead_other w v y _ e z) s)
      ]
    ]

pub wiped_more : (xs : List Role) (F : List (Option ℕ)) (k : ℕ) (x : Role) → get_or xs k Other ≡ x → Wiped xs F k → Wiped xs (wiped x F) (k + 1)
wiped_more xs F k Other e h = other_wiped xs F k (λ w. ap (is_lead w) e) h
wiped_more xs F k Free e h = other_wiped xs F k (λ w. ap (is_lead w) e) h
wiped_more xs F k (Use m j p y) e h = other_wiped xs F k (λ w. ap (is_lead w) e) h
wiped_more xs F k (Lead v y) e h = lead-wiped xs F k v y e h
wiped_more xs F k (Opening m j) e h = other_wiped xs F k (λ w. ap (is_lead w) e) h
