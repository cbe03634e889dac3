-- What a function refuses leaves the room that it writes into as it was. Assumes nothing.
use Prim.Native.Nat.{ℕ, ◌*◌}
use mathlib.Core.Path.{◌≡◌, refl, sym, subst}
use mathlib.Core.List.{List}
use lib.Dec.{leb, ltb}
use lib.IntN.{ℤ}
use lib.ListN.{length}
use Rattle.words.specs.Choice.{when◌then◌else◌, by_test, by_if}
use Rattle.words.proofs.Tests.{clash}
use Rattle.message.specs.declared.Message.{Message}
use Rattle.message.specs.Message.{said}
use Rattle.message.specs.Answers.{Answer, refused, result}
use Rattle.reading.specs.Reading.{reading}
use Rattle.writing.specs.Wire.{wire}
use Rattle.writing.specs.Writing.{writing, left, written}
use Rattle.line.specs.declared.Entry.{Entry}
use Rattle.hall.specs.declared.Hall.{Hall}
use Rattle.hall.specs.Seats.{is_present}
use Rattle.identities.specs.declared.Names.{Names}
use Rattle.outgoing.specs.Outgoing.{sending, sent}
use Rattle.std.proofs.Common.{Option, Some, None, Result, Ok, Err}
use Rattle.saving.specs.declared.Refusal as save
use Rattle.saving.specs.Saving.{saving, room_after}
use Rattle.message_octets.specs.Places.{message_size}
use Rattle.message_octets.specs.Held.{read_number, keeping, read_held, kept_in, writing_of, written_of, held_at}
use Rattle.steps.specs.declared.Kind.{Kind}
use Rattle.report_octets.specs.Report.{told_in}
use Rattle.desk_octets.specs.Form.{core_at, hall_at, names_at, settings_at}
use Rattle.desk_test.specs.Lent.{formed}
use Rattle.line.specs.Line.{waiting}
use Rattle.seat_octets.specs.Layout.{settings_octets}
use Rattle.sheet.specs.Layout.{seat_at, octets_of_seat}
use Rattle.signed.specs.Signed.{told_as, signed, answers, Refuses}
use Rattle.desk_looking.specs.Looking.{saved_answer, packet_for, identity_in, tells, message_on, read_on, write_on, save_on, screened}
use Rattle.desk_looking.specs.Looking.{screen_on}
use Rattle.seat_looking.specs.Showing.{shown, seat_shown, settings_shown}
use Rattle.floor_laws.specs.Kept.{RoomsKept}
use Rattle.floor_laws.proofs.Refusals.{Unwritten}

module _ (room : List ℕ) where
  -- packets
  left_kept : (a : Answer ℕ) (octets : List ℕ) → Refuses (signed a) → left a octets room ≡ room
  left_kept (refused n) octets z = refl
  left_kept (result n) octets z = clash refl z

  written_kept : (m : Message) (src : List ℕ) → Unwritten room (answers (writing m src (length room)) (written m src room))
  unfolding written
  written_kept m src = left_kept (writing m src (length room)) (wire (said m src))

  sent_kept : (o : Option Message) (src : List ℕ) → Unwritten room (answers (sending o src (length room)) (sent o src room))
  sent_kept None src z = refl
  sent_kept (Some m) src z = written_kept m src z

  tells_kept : (d : List ℕ) (t : Option Kind) → Unwritten room (tells d room t)
  tells_kept d None z = refl
  tells_kept d (Some k) z = sent_kept (packet_for d k) (identity_in d k) z

  message_kept : (d r : List ℕ) (which : ℕ) → Unwritten room (message_on d r which room)
  message_kept d r which = by_if (Unwritten room) (formed d) (λ _. tells_kept d (told_in r which)) (λ _ _. refl)

  held_kept : (h : Option Message) (src : List ℕ) → Unwritten room (answers (writing_of h src (length room)) (written_of h src room))
  held_kept None src z = refl
  held_kept (Some m) src z = written_kept m src z

  reading_kept : (a : Answer Message) → Refuses (told_as (read_number a (length room))) → keeping a room ≡ room
  unfolding when◌then◌else◌
  reading_kept (refused n) z = refl
  reading_kept (result m) z = by_test (ltb (length room) message_size) (λ e. rw e) (λ e. clash refl (rw e at z))

  read_kept : (packet : List ℕ) → Unwritten room (read_on packet room)
  unfolding read_held kept_in
  read_kept packet = reading_kept (reading packet)

  -- the sheet
  saved_kept : (h : Hall) (ns : Names) (r : Result ℕ save.Refusal) → saving h ns room ≡ r →
      Unwritten room (answers (saved_answer r) (room_after h ns room))
  unfolding room_after when◌then◌else◌
  saved_kept h ns (Ok n) e z = clash refl z
  saved_kept h ns (Err r) e z = rw e

  sheet_kept : (h : Hall) (ns : Names) → Unwritten room (answers (saved_answer (saving h ns room)) (room_after h ns room))
  sheet_kept h ns = saved_kept h ns (saving h ns room) refl

  save_kept : (d : List ℕ) → Unwritten room (save_on d room)
  save_kept d = by_if (Unwritten room) (formed d) (λ _. sheet_kept (hall_at d) (names_at d)) (λ _ _. refl)

  -- what is looked at
  screened_kept : (es : List Entry) → Unwritten room (screened es room)
  unfolding screened
  screened_kept es = by_if (Unwritten room) (leb (2 * length es) (length room)) (λ _ z. clash refl z) (λ _ _. refl)

  screen_kept : (d : List ℕ) → Unwritten room (screen_on d room)
  screen_kept d = by_if (Unwritten room) (formed d) (λ _. screened_kept (waiting (core_at d).line)) (λ _ _. refl)

  shown_kept : (octets : List ℕ) → Unwritten room (shown octets room)
  unfolding shown
  shown_kept octets = by_if (Unwritten room) (leb (length octets) (length room)) (λ _ z. clash refl z) (λ _ _. refl)

  seat_kept : (d : List ℕ) (seat : ℕ) → Unwritten room (seat_shown d seat room)
  seat_kept d seat =
      by_if (Unwritten room) (formed d)
      (λ _. by_if (Unwritten room) (is_present (hall_at d) seat) (λ _. shown_kept (octets_of_seat (seat_at (hall_at d) (names_at d) seat)))
      (λ _ _. refl))
      (λ _ _. refl)

  settings_kept : (d : List ℕ) → Unwritten room (settings_shown d room)
  settings_kept d = by_if (Unwritten room) (formed d) (λ _. shown_kept (settings_octets (settings_at d))) (λ _ _. refl)

  -- so of what is promised
  kept_by : (n : ℤ) (room' : List ℕ) (w : ℤ × List ℕ) → (n, room') ≡ w → Unwritten room w → Refuses n → room' ≡ room
  kept_by n room' w p k = subst (λ (v : ℤ × List ℕ). Unwritten room v) (sym p) k

pub rooms_kept : RoomsKept
rooms_kept = (
  λ d r which room n room' p. kept_by room n room' (message_on d r which room) p (message_kept room d r which),
  λ packet room n room' p. kept_by room n room' (read_on packet room) p (read_kept room packet),
  λ m source room n room' p. kept_by room n room' (write_on m source room) p (held_kept room (held_at m) source),
  λ d room n room' p. kept_by room n room' (save_on d room) p (save_kept room d),
  λ d room n room' p. kept_by room n room' (screen_on d room) p (screen_kept room d),
  λ d seat room n room' p. kept_by room n room' (seat_shown d seat room) p (seat_kept room d seat),
  λ d room n room' p. kept_by room n room' (settings_shown d room) p (settings_kept room d),
)
