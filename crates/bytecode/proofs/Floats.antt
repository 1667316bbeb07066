-- Finite floats and whole numbers that a test finds equal are equal.
-- Assumes nothing.
use mathlib.Core.Path.{◌≡◌}
use mathlib.Core.Bool.{Bool, false, ◌&&◌, beq}
use lib.Dec.{T, eqb, eqb→eq}
use lib.Ieee.{Float, nan, inf, fin}
use Rattle.laws.specs.computed.Tests.{eq_z}
use Rattle.laws.proofs.Every.{same→eq, both_left, both_right, eq_z→eq}

abbrev pub eq_f : Float → Float → Bool
eq_f nan y = false
eq_f (inf s) y = false
eq_f (fin s m e) nan = false
eq_f (fin s m e) (inf t) = false
eq_f (fin s m e) (fin t n d) = beq s t && (eqb m n && eq_z e d)

pub eq_f→eq : (x y : Float) → T (eq_f x y) → x ≡ y
eq_f→eq nan y t = absurd t
eq_f→eq (inf s) y t = absurd t
eq_f→eq (fin s m e) nan t = absurd t
eq_f→eq (fin s m e) (inf t) h = absurd h
eq_f→eq (fin s m e) (fin t n d) h =
    let l = both_right (beq s t) (eqb m n && eq_z e d) h in
    let p : s ≡ t = same→eq s t (both_left (beq s t) (eqb m n && eq_z e d) h) in
    let q : m ≡ n = eqb→eq m n (both_left (eqb m n) (eq_z e d) l) in
    let r : e ≡ d = eq_z→eq e d (both_right (eqb m n) (eq_z e d) l) in
    cc
