-- What a packet was read into is written again. Assumes nothing.
use Prim.Native.Nat.{ℕ, ◌+◌, ◌≤◌}
use native.Mathlib.Omega.{arith}
use mathlib.Core.Bool.{Bool, true, ◌&&◌}
use mathlib.Core.List.{List}
use mathlib.Core.Path.{◌≡◌, refl, sym, ap, ◌∙◌}
use lib.ListN.{length, take, drop}
use Rattle.std.specs.Prelude.{Option, None, Some}
use lib.Seq.{take-append_seam}
use borrow.Author.Tests.{leb-true, le-ltb}
use Rattle.words.specs.Below.{and_left, and_right}
use Rattle.words.specs.Choice.{when◌then◌else◌}
use Rattle.octets.specs.Octets.{over, octets16, octets32}
use Rattle.message.specs.Answers.{result}
use Rattle.message.specs.Message.{said, complete, part_lies, phrase_lies, lies}
use Rattle.message.specs.declared.Part.{Part}
use Rattle.message.specs.declared.RejectCause.{RejectCause}
use Rattle.message.specs.declared.Message.{Message}
use Rattle.reading.specs.Reading.{reading}
use Rattle.writing.specs.Wire.{wire}
use Rattle.readable.specs.Readable.{all_fit, readable}
use Rattle.writing.specs.Writing.{writing, written}
use Rattle.packet_laws.specs.Again.{WrittenAgain}
use Rattle.header.proofs.Openings.{opened_by}
use Rattle.reading.proofs.Judges.{read_by}
use Rattle.packet_laws.proofs.Again.{read_is_written}
use Rattle.message_octets.specs.Held.{phrase_in, head_octets, first_octets, next_octets, part_in_four, part_octets, held_octets}
use Rattle.message_octets.specs.Held.{held_at}
use Rattle.message_octets.specs.Held.{kept_in}
use Rattle.message_octets.proofs.Answers.{kept_is}
use Rattle.message_octets_laws.specs.Laws.{NearPart, Near, ReadThenWritten}
use Rattle.message_octets_laws.proofs.Back.{held_back}
use Rattle.message_octets.specs.Places.{message_size}

-- the parts of a message that was read lie in a packet of at most 1,024 octets
near_part : (s : List ℕ) (p : Option Part) → length s ≤ 1024 → part_lies s p ≡ true → NearPart p
near_part s None h e = record { start = omega arith; count = omega arith }
near_part s (Some p) h e =
    let l : p.from + p.count ≤ length s = leb-true (p.from + p.count) (length s) e in
    record { start = omega arith; count = omega arith }

near_phrase : (s : List ℕ) (c : Option RejectCause) → length s ≤ 1024 → phrase_lies s c ≡ true → NearPart (phrase_in c)
near_phrase s None h e = near_part s None h e
near_phrase s (Some c) h e = near_part s (Some c.phrase) h e

short_packet : (s : List ℕ) (m : Message) → reading s ≡ result m → length s ≤ 1024
short_packet s m e = let r = read_by s m e in (opened_by s r.kind r.opens).short

near : (s : List ℕ) (m : Message) → reading s ≡ result m → readable m s ≡ true → Near m
unfolding readable lies
near s m e r =
    let h : length s ≤ 1024 = short_packet s m e in
    let l : lies m s ≡ true =
    and_left (lies m s) (all_fit (said m s).fields) (and_left (lies m s && all_fit (said m s).fields) (complete (said m s)) r) in
    let parts : Bool = part_lies s m.granted && part_lies s m.user in
    let p : parts ≡ true = and_left parts (phrase_lies s m.cause) l in
    record {
      phrase = near_phrase s m.cause h (and_right parts (phrase_lies s m.cause) l);
      granted = near_part s m.granted h (and_left (part_lies s m.granted) (part_lies s m.user) p);
      user = near_part s m.user h (and_right (part_lies s m.granted) (part_lies s m.user) p);
    }

-- the first 40 octets of the room are those of the message
front : (kept : List ℕ) (m : Message) → take message_size (over kept 0 (held_octets m)) ≡ held_octets m
unfolding over held_octets head_octets first_octets next_octets part_octets part_in_four octets16 octets32
front kept m = take-append_seam (held_octets m) (drop (0 + length (held_octets m)) kept)

writes : (m : Message) (src room : List ℕ) → readable m src ≡ true → length (wire (said m src)) ≤ length room
    → writing m src (length room) ≡ result (length (wire (said m src)))
unfolding writing when◌then◌else◌
writes m src room e h = rw (e, le-ltb (length room) (length (wire (said m src))) h)

pub read_then_written : ReadThenWritten
unfolding written
read_then_written packet kept room m e h l =
    let a : WrittenAgain packet m = read_is_written packet m e in
    let k = kept_is packet kept m (over kept 0 (held_octets m)) e h refl in
    let held : held_at (take message_size (kept_in packet kept)) ≡ Some m =
    ap (λ (x : List ℕ). held_at (take message_size x)) (sym k.1) ∙ ap held_at (front kept m)
    ∙ held_back m (near packet m e a.accepted) in
    let w : writing m packet (length room) ≡ result (length (wire (said m packet))) =
    writes m packet room a.accepted (omega (arith, a.no_longer)) in
    record { done = sym k.0; holds = held; count = rw held w; again = rw (held, w) }
