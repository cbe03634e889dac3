-- A set of timers back from its number, and what C programs are told of the clocks. Assumes nothing.
use Prim.Native.Nat.{ℕ, ◌+◌, ◌*◌, ◌/◌, ◌%◌, ◌≤◌}
use native.Mathlib.Omega.{arith}
use native.Mathlib.Nat.{div-eq_of_lt-le, mul-one, mul-zero}
use mathlib.Core.Bool.{Bool, true, false, not}
use mathlib.Core.Path.{◌≡◌, refl, sym}
use lib.Dec.{eqb, leb}
use borrow.Author.Tests.{eq-eqb, ne_eqb}
use Rattle.words.specs.Choice.{when◌then◌else◌, one}
use Rattle.octets.specs.Octets.{octets16}
use Rattle.steps.specs.declared.Given.{Given}
use Rattle.steps.specs.declared.Given.TheVariants.{NotGiven, AtOnce, OutOfLine}
use Rattle.steps.specs.declared.Report.{Report}
use Rattle.timers.specs.declared.Running.{Running}
use Rattle.report_octets.specs.Report.{how_octet, marks_octets, octets_of_report}
use Rattle.report_octets_laws.proofs.Reported.{twenty_four}
use Rattle.clocks_looking.specs.ClockSets.{bit, timer_set}
use Rattle.clocks_looking.specs.ClockSets.{running_in, how_given, starts_on}
use Rattle.clocks_laws.specs.Clockwork.{SetBack, someone_given, StartsTold, StopsTold}

-- a bit, as its weight once or not at all
weighs : (b : Bool) (w : ℕ) → bit b w ≡ w * one b
unfolding when◌then◌else◌
weighs true w = sym (mul-one w)
weighs false w = sym (mul-zero w)

once : (b : Bool) → one b ≤ 1
once true = omega arith
once false = omega arith

-- a number that is one bit and an even rest
odd_bit : (b : Bool) (j : ℕ) {q : ℕ} → q ≡ one b + 2 * j → eqb (q % 2) 1 ≡ b
odd_bit true j {q} e = eq-eqb (q % 2) 1 (omega (arith, e))
odd_bit false j {q} e = ne_eqb (q % 2) 1 (λ z. omega (arith, e, z))

-- seven such bits by themselves
module _ (a b c d e f g s : ℕ) (la : a ≤ 1) (lb : b ≤ 1) (lc : c ≤ 1) (ld : d ≤ 1) (le : e ≤ 1) (lf : f ≤ 1)
    (is : s ≡ 2 * a + 4 * b + 8 * c + 16 * d + 128 * e + 256 * f + 1048576 * g) where
  first : s / 2 ≡ a + 2 * (b + 2 * c + 4 * d + 32 * e + 64 * f + 262144 * g)
  first = div-eq_of_lt-le 2 (omega arith) (omega arith)

  second : s / 4 ≡ b + 2 * (c + 2 * d + 16 * e + 32 * f + 131072 * g)
  second = div-eq_of_lt-le 4 (omega arith) (omega arith)

  third : s / 8 ≡ c + 2 * (d + 8 * e + 16 * f + 65536 * g)
  third = div-eq_of_lt-le 8 (omega arith) (omega arith)

  fourth : s / 16 ≡ d + 2 * (4 * e + 8 * f + 32768 * g)
  fourth = div-eq_of_lt-le 16 (omega arith) (omega arith)

  seventh : s / 128 ≡ e + 2 * (f + 4096 * g)
  seventh = div-eq_of_lt-le 128 (omega arith) (omega arith)

  eighth : s / 256 ≡ f + 2 * (2048 * g)
  eighth = div-eq_of_lt-le 256 (omega arith) (omega arith)

  twentieth : s / 1048576 ≡ g + 2 * 0
  twentieth = div-eq_of_lt-le 1048576 (omega arith) (omega arith)

sum : (t : Running) → timer_set t
    ≡ 2 * one t.t1 + 4 * one t.t2 + 8 * one t.t3 + 16 * one t.t4 + 128 * one t.t7 + 256 * one t.t8
    + 1048576 * one t.t20
unfolding timer_set
sum t =
    rw (
      weighs t.t1 2,
      weighs t.t2 4,
      weighs t.t3 8,
      weighs t.t4 16,
      weighs t.t7 128,
      weighs t.t8 256,
      weighs t.t20 1048576,
    )

pub set_back : SetBack
unfolding running_in
set_back t =
    let s = timer_set t in
    let a = one t.t1 in
    let b = one t.t2 in
    let c = one t.t3 in
    let d = one t.t4 in
    let e = one t.t7 in
    let f = one t.t8 in
    let g = one t.t20 in
    let la = once t.t1 in
    let lb = once t.t2 in
    let lc = once t.t3 in
    let ld = once t.t4 in
    let le = once t.t7 in
    let lf = once t.t8 in
    let is-t1 : eqb (s / 2 % 2) 1 ≡ t.t1 = odd_bit t.t1 _ (first a b c d e f g s la lb lc ld le lf (sum t)) in
    let is-t2 : eqb (s / 4 % 2) 1 ≡ t.t2 = odd_bit t.t2 _ (second a b c d e f g s la lb lc ld le lf (sum t)) in
    let is-t3 : eqb (s / 8 % 2) 1 ≡ t.t3 = odd_bit t.t3 _ (third a b c d e f g s la lb lc ld le lf (sum t)) in
    let is-t4 : eqb (s / 16 % 2) 1 ≡ t.t4 = odd_bit t.t4 _ (fourth a b c d e f g s la lb lc ld le lf (sum t)) in
    let is-t7 : eqb (s / 128 % 2) 1 ≡ t.t7 = odd_bit t.t7 _ (seventh a b c d e f g s la lb lc ld le lf (sum t)) in
    let is-t8 : eqb (s / 256 % 2) 1 ≡ t.t8 = odd_bit t.t8 _ (eighth a b c d e f g s la lb lc ld le lf (sum t)) in
    let is-t20 : eqb (s / 1048576 % 2) 1 ≡ t.t20 = odd_bit t.t20 0 (twentieth a b c d e f g s la lb lc ld le lf (sum t)) in
    rw (is-t1, is-t2, is-t3, is-t4, is-t7, is-t8, is-t20)

-- what a report's octet says of how the floor was given
how_said : (r : Report) → how_given (octets_of_report r) ≡ how_octet r.marks.given
unfolding octets_of_report marks_octets octets16
how_said r = refl

how_few : (g : Given) → leb (how_octet g) 2 ≡ true
how_few NotGiven = refl
how_few (AtOnce s) = refl
how_few (OutOfLine s) = refl

how_given_lem : (g : Given) → not (eqb (how_octet g) 0) ≡ someone_given g
how_given_lem NotGiven = refl
how_given_lem (AtOnce s) = refl
how_given_lem (OutOfLine s) = refl

pub starts_told : StartsTold
unfolding starts_on when◌then◌else◌
starts_told before after fired r =
    rw (
      twenty_four r,
      how_said r,
      how_few r.marks.given,
      how_given_lem r.marks.given,
      set_back before,
      set_back after,
    )

pub stops_told : StopsTold
stops_told before after = rw (set_back before, set_back after)
