-- The faults of wires, shown by the sites.
use Rattle.std.proofs.Common.{ℕ, ◌<◌, List, [], arith}
use Rattle.terms.specs.Term.{Term, wire, size}
use Rattle.checker.specs.Faults.{Repeated, repeated}
use Rattle.checker.specs.Sites.{sites}
use Rattle.checker.specs.Firsts.{RepeatSite}
use Rattle.checker.proofs.Finding.{Shown}
use Rattle.checker.proofs.Walks.{length-sites}
use Rattle.checker.proofs.Showing.{within-size}
use Rattle.checker.proofs.Accepting.{wired, wired_twice, wire_site}

repeat_low : (t : Term) (lines : List ℕ) (n : ℕ) → Repeated t lines n → n < size t
repeat_low t lines n (repeated a b l) = within-size t n _ _ _ a

repeat_to : (t : Term) (lines : List ℕ) (n : ℕ) → Repeated t lines n → RepeatSite (sites [] 0 0 t) lines n
repeat_to t lines n (repeated {H = H} {K = K} {c = c} {d = d} {m = m} {w = w} a b l) =
    record { wire = w; other = m; low = omega (arith, within-size t m K d (wire w) b, length-sites [] 0 0 t); here = wire_site t n w H c a; there = wire_site t m w K d b; less = l }

repeat_from : (t : Term) (lines : List ℕ) (n : ℕ) → n < size t → RepeatSite (sites [] 0 0 t) lines n → Repeated t lines n
repeat_from t lines n lo r =
    let p = wired t n r.wire lo r.here in
    let q = wired t r.other r.wire (omega (arith, r.low, length-sites [] 0 0 t)) r.there in
    wired_twice t lines n r.other r.wire p q r.less

pub repeat_shown : (t : Term) (lines : List ℕ) → Shown (Repeated t lines) (RepeatSite (sites [] 0 0 t) lines) (size t)
repeat_shown t lines = record { low = repeat_low t lines; to = repeat_to t lines; from = repeat_from t lines }
