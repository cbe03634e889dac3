-- `desk_looking::tell` keeps its promise, `(result, room.new) ≡ tells desk.now room.old (Says kind)`. Assumes nothing.
use Rattle.outgoing.specs.Outgoing.{outgoing}
use lib.ListN.{length}
use Rattle.signed.specs.Signed.{signed}
use Rattle.desk_looking.proofs.Short.{sending_short}
use Rattle.signed.proofs.Signed.{passed, pair_same}
use mathlib.Core.Path.{◌∙◌, ap}
use Rattle.desk_looking.proofs.tell.Goals as goal

pub settings_at-settings-requires : goal.settings_at-settings-requires
settings_at-settings-requires c = c.requires

pub name_at-identity-requires : goal.name_at-identity-requires
name_at-identity-requires c = c.requires

pub written_number-requires : goal.written_number-requires
written_number-requires c =
    let identity = c.name_at-identity.result.now in
    rw c.send.ensures.0
    (sending_short (outgoing c.settings_at-settings.result
    c.in-Some.kind (length identity)) identity
    (length c.args.room.now))

pub returns : goal.returns
returns c =
    rw c.in-Some.is (pair_same (passed c.written_number.type_inv ∙ c.written_number.ensures ∙ ap signed c.send.ensures.0)
    c.send.ensures.1
    ∙ rw (
      c.settings_at-settings.ensures,
      c.name_at-identity.ensures,
      c.particulars_of-particulars.ensures,
    ))
