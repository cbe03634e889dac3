-- `floor::floor_join` keeps its promise, `JoinPromise desk.old identity.now ssrc highest queueing receive_only result desk.new`. Takes the
-- lowest free seat. Assumes nothing.
use Rattle.desk_test.proofs.Desks.{has_room}
use Rattle.words.specs.Choice.{if_yes, if_no}
use Rattle.signed.proofs.Signed.{passed, pair_same}
use mathlib.Core.Path.{refl, sym, ◌∙◌}
use Rattle.floor.proofs.floor_join.Goals as goal

pub core_at-core-requires : goal.core_at-core-requires
core_at-core-requires c = has_room _ (sym c.is_desk.ensures ∙ c.if-not-is_desk.false)

pub hall_at-hall-requires : goal.hall_at-hall-requires
hall_at-hall-requires c = has_room _ (sym c.is_desk.ensures ∙ c.if-not-is_desk.false)

pub names_at-names-requires : goal.names_at-names-requires
names_at-names-requires c = has_room _ (sym c.is_desk.ensures ∙ c.if-not-is_desk.false)

pub returns-then-not-is_desk : goal.returns-then-not-is_desk
returns-then-not-is_desk c =
    pair_same (passed c.refusal.type_inv ∙ c.refusal.ensures) refl
    ∙ sym (if_no _ _ _ (sym c.is_desk.ensures ∙ c.if-not-is_desk.true))

pub returns : goal.returns
returns c =
    rw (
      ← c.core_at-core.ensures,
      ← c.hall_at-hall.ensures,
      ← c.names_at-names.ensures,
      ← c.newcomer_of-who.ensures,
      ← c.join_call-joined.ensures,
      ← c.number_of-n.ensures,
      ← c.seat_taken-seat.ensures,
    )
    (pair_same (passed c.write_desk.type_inv) refl ∙ c.write_desk.ensures
    ∙ sym (if_yes _ _ _ (sym c.is_desk.ensures ∙ c.if-not-is_desk.false)))
