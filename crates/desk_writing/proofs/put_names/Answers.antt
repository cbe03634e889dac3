-- `desk_writing::put_names` keeps its promise, `room.new ≡ over room.old lengths_column (names_octets names)`. Assumes
-- nothing.
use Rattle.desk_octets.specs.Places.{lengths_column, identities_column}
use Rattle.desk_octets.specs.Form.{names_octets, length_octets}
use Rattle.desk_octets.specs.Columns.{column}
use Rattle.desk_octets.proofs.Turns.{next_piece}
use lib.ListN.{length}
use Rattle.std.proofs.Common.{rules, ◌≡◌, get_or, []}
use Rattle.std.proofs.lemmas.List.{get_or_default}
use Prim.Native.Nat.{◌≤◌}
use Rattle.identities.specs.Identity.{octets_of, name_at, no_name}
use mathlib.Core.Path.{refl}
use native.Mathlib.Omega.{arith}
use Rattle.desk_writing.proofs.put_names.Goals as goal

pub returns : goal.returns
unfolding names_octets length_octets column
returns c =
    let a = c.args in
    let r = a.room.now in
    let h : lengths_column ≤ length r = omega (arith, c.requires) in
    next_piece r _ _ lengths_column identities_column _ _
    (c.put_column.ensures (λ s. length (octets_of (name_at c.args.names s))) (λ i x b p.
    let e : get_or c.args.names.«of» i (record { octets = []; len = 0 }) ≡ name_at c.args.names i =
    get_or_default c.args.names.«of» i _ no_name (omega arith) in
    search (rules, e)))
    c.put_identities.ensures refl h
