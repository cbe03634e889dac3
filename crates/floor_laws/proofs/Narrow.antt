-- Every entry of a desk, in the line and on the floor, is two octets, and whatever way a step goes keeps it so: a seat is one of sixteen,
-- and a priority is at most the seat's highest. Assumes nothing.
use Prim.Native.Nat.{ℕ, ◌≤◌, ◌<◌}
use mathlib.Core.Path.{◌≡◌, ap}
use mathlib.Core.Bool.{Bool, false}
use mathlib.Core.List.{List, [], ◌∷◌}
use native.Mathlib.Omega.{arith}
use lib.Dec.{leb}
use lib.ListN.{get_or, take, drop}
use borrow.Author.Tests.{leb-true}
use Rattle.words.specs.Choice.{by_if}
use Rattle.line.specs.declared.Entry.{Entry}
use Rattle.line.specs.declared.Line.{Line}
use Rattle.line.specs.Line.{waiting, line_of, empty, ahead, enter, without}
use Rattle.hall.specs.declared.Hall.{Hall}
use Rattle.std.proofs.Common.{Option}
use Rattle.hall.specs.Seats.{only, asked, effective}
use Rattle.steps.specs.declared.Core.{Core}
use Rattle.steps.specs.declared.Sending.{Sending}
use Rattle.steps.specs.Words.{◌with_line◌}
use Rattle.line.specs.Line.{entry_of}
use Rattle.events.specs.declared.Outcome.{Outcome}
use Rattle.events.specs.declared.Desk.{Desk}
use Rattle.history.specs.Doing.{Doing}
use Rattle.history.specs.Asking.{asks, asking}
use Rattle.ways.specs.Ways.{Sits, Six, informs, presses, informs_and_presses}
use Rattle.ways.specs.Ways as way
use Rattle.ways.proofs.Laws.{asked-effective}
use Rattle.desk_octets.specs.Form.{holder_in}
use Rattle.floor_laws.proofs.All.{All, all_take, all_drop, all_both, all_padded}

abbrev pub Small : Entry → Type 0
Small e = (e.seat < 256) × (e.priority < 256)

pub none_small : Small empty
none_small = (omega arith, omega arith)

pub record NarrowCore (c : Core) : Type 0 where
  pub line : All Small c.line.entries
  pub holder : Small (holder_in c.phase)

-- what is done to a line
pub waiting_small : (l : Line) → All Small l.entries → All Small (waiting l)
unfolding waiting
waiting_small l k = all_take Small l.len l.entries k

pub line_small : (es : List Entry) → All Small es → All Small (line_of es).entries
unfolding line_of
line_small es k = all_padded Small empty 15 es none_small k

pub enter_small : (e : Entry) (es : List Entry) → Small e → All Small es → All Small (enter e es)
unfolding enter
enter_small e es p k =
    let n = ahead e.priority es in
    all_both Small (take n es) (e ∷ drop n es) (all_take Small n es k) (p, all_drop Small n es k)

pub without_small : (seats : List Bool) (es : List Entry) → All Small es → All Small (without seats es)
unfolding without
without_small seats [] k = tt
without_small seats (e ∷ es) k =
    by_if (All Small) (get_or seats e.seat false) (λ _. without_small seats es k.1) (λ _. (k.0, without_small seats es k.1))

-- rule 6
six_narrow : {c : Core} {h : Hall} {t : ℕ} {new : Core} {first second : Sending} → NarrowCore c → Six c h t new first second →
    NarrowCore new
six_narrow {c} o (informs q f s) = rw q o
six_narrow {c} o (presses e b k q f s) = rw q (record { line = o.line; holder = rw k at o.holder })
six_narrow {c} o (informs_and_presses e b k q f s) = rw q (record { line = o.line; holder = rw k at o.holder })

module _ (h : Hall) (top : (s : ℕ) → get_or h.highest s 0 < 256) where
  effective_small : (s : ℕ) (a : Option ℕ) → effective h s a < 256
  unfolding effective
  effective_small s a =
      let m = get_or h.highest s 0 in
      let p = asked h.settings.normal a in
      by_if (λ (n : ℕ). n < 256) (leb p m) (λ q. let z : p ≤ m = leb-true p m q in omega (arith, top s)) (λ _. top s)

  pub asker_small : (x : Doing) (t p : ℕ) → asking h x ≡ asks t p → Sits h t → Small (entry_of t p)
  asker_small x t p a s =
      let z = asked-effective h t p x a in
      (omega (arith, s.below), rw z.is (effective_small t z.field))

module _ (d : Desk) (x : Doing) (l : Outcome) (top : (s : ℕ) → get_or d.hall.highest s 0 < 256) (o : NarrowCore d.core) where
  there : All Small (waiting d.core.line)
  there = waiting_small d.core.line o.line

  relined : (es : List Entry) → All Small es → NarrowCore (d.core with_line line_of es)
  relined es y = record { line = line_small es y; holder = o.holder }

  pub keeps_narrow : way.Way d x l → NarrowCore l.desk.core
  keeps_narrow (way.refuses r u v q m) = rw (ap (λ (y : Desk). y.core) q) o
  keeps_narrow (way.grants_holder t p e b a w n q m) = rw q o
  keeps_narrow (way.denies t p n a s u b q m) = rw (ap (λ (y : Desk). y.core) q) o
  keeps_narrow (way.gives t p a s i q m) = rw q (record { line = o.line; holder = asker_small d.hall top x t p a s })
  keeps_narrow (way.asks_again t p f g a s w z m) = six_narrow o z
  keeps_narrow (way.moves t p f g a s b n w r z m) =
      let y = without (only t) (waiting d.core.line) in
      six_narrow (relined (enter (entry_of t p) y)
      (enter_small (entry_of t p) y (asker_small d.hall top x t p a s) (without_small (only t) (waiting d.core.line) there))) z
  keeps_narrow (way.places t p f g a s b n r w u z m) =
      six_narrow (relined (enter (entry_of t p) (waiting d.core.line))
      (enter_small (entry_of t p) (waiting d.core.line) (asker_small d.hall top x t p a s) there)) z
  keeps_narrow (way.passes t e es a f n w q m) =
      let y : All Small (e ∷ es) = rw w at there in
      rw q (record { line = line_small (without (only e.seat) (e ∷ es)) (without_small (only e.seat) (e ∷ es) y); holder = y.0 })
  keeps_narrow (way.frees t a f n w q m) = rw q (record { line = o.line; holder = none_small })
  keeps_narrow (way.strikes t a g n w q m) =
      rw q (relined (without (only t) (waiting d.core.line)) (without_small (only t) (waiting d.core.line) there))
  keeps_narrow (way.tells s t y i q m) = rw q o
  keeps_narrow (way.talks s e b y w q m) = rw q (record { line = o.line; holder = rw w at o.holder })
  keeps_narrow (way.rests a f q m) = rw q o
  keeps_narrow (way.starts y w q m) = rw q (record { line = o.line; holder = none_small })
  keeps_narrow (way.halts t y n q m) = rw q (record { line = line_small [] tt; holder = none_small })
  keeps_narrow (way.closes y i q m) = rw q (record { line = line_small [] tt; holder = none_small })
  keeps_narrow (way.revokes e b y w q m) = rw q (record { line = o.line; holder = rw w at o.holder })
  keeps_narrow (way.revokes_again e n y w q m) = rw q o
  keeps_narrow (way.grants_again e b y w z q m) = rw q (record { line = o.line; holder = o.holder })
  keeps_narrow (way.idles_again y i z q m) = rw q (record { line = o.line; holder = o.holder })
  keeps_narrow (way.idles_on y i q m) = rw q (record { line = o.line; holder = none_small })
