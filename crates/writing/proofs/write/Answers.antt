-- `writing::write` keeps its promise, `Writes m src.now room.old result room.new`. Assumes nothing.
use Prim.Native.Nat.{ℕ}
use mathlib.Core.Bool.{true}
use mathlib.Core.Path.{◌≡◌, ap, sym, ◌∙◌}
use Rattle.header.specs.Header.{headed}
use Rattle.octets.specs.Octets.{over}
use Rattle.readable.specs.Readable.{readable}
use Rattle.readable.proofs.Fits.{held_by}
use Rattle.writing.proofs.Whole.{refused_12, refused_13, size_whole, front_fits, rest-fits, laid_whole}
use native.Mathlib.Omega.{arith}
use Rattle.writing.proofs.write.Goals as goal

pub size_of-size-requires : goal.size_of-size-requires
size_of-size-requires c =
    let read : readable c.args.m c.args.src.now ≡ true = sym c.readable.ensures ∙ c.if-not-readable.false in
    (held_by c.args.m c.args.src.now read).short

pub returns-then-room-size : goal.returns-then-room-size
returns-then-room-size c =
    let read : readable c.args.m c.args.src.now ≡ true = sym c.readable.ensures ∙ c.if-not-readable.false in
    refused_13 c.args.m
    c.args.src.now c.args.room.now
    read c.size_of-size.ensures c.if-room-size.true

pub put_header-requires : goal.put_header-requires
put_header-requires c =
    let read : readable c.args.m c.args.src.now ≡ true = sym c.readable.ensures ∙ c.if-not-readable.false in
    let w =
    size_whole c.args.m
    c.args.src.now
    c.args.room.now read
    c.size_of-size.ensures in
    record { header_size_le_size = w; header_size_in_bounds = omega (arith, w.0, c.if-room-size.false) }

pub put_front-at-requires : goal.put_front-at-requires
put_front-at-requires c =
    let read : readable c.args.m c.args.src.now ≡ true = sym c.readable.ensures ∙ c.if-not-readable.false in
    let a = c.args in
    let headed_is =
    c.put_header.ensures ∙ ap (λ (first : ℕ). over a.room.now 0 (headed first a.m.ssrc c.size_of-size.result))
    c.first_octet-first.ensures in
    record {
      fields_fit = held_by a.m a.src.now read;
      src_in_bounds = front_fits c.args.m
          c.args.src.now
          c.args.room.now
          read
          c.size_of-size.ensures
          c.if-room-size.false headed_is;
    }

pub put_rest-requires : goal.put_rest-requires
put_rest-requires c =
    let read : readable c.args.m c.args.src.now ≡ true = sym c.readable.ensures ∙ c.if-not-readable.false in
    let a = c.args in
    let headed_is =
    c.put_header.ensures ∙ ap (λ (first : ℕ). over a.room.now 0 (headed first a.m.ssrc c.size_of-size.result))
    c.first_octet-first.ensures in
    record {
      fields_fit = held_by a.m a.src.now
          read;
      src_in_bounds = rest-fits c.args.m c.args.src.now
          c.args.room.now read
          c.size_of-size.ensures
          c.if-room-size.false
          headed_is c.put_front-at.ensures;
    }

pub returns : goal.returns
returns c =
    let read : readable c.args.m c.args.src.now ≡ true = sym c.readable.ensures ∙ c.if-not-readable.false in
    let a = c.args in
    let headed_is =
    c.put_header.ensures ∙ ap (λ (first : ℕ). over a.room.now 0 (headed first a.m.ssrc c.size_of-size.result))
    c.first_octet-first.ensures in
    laid_whole c.args.m
    c.args.src.now
    c.args.room.now
    read c.size_of-size.ensures c.if-room-size.false headed_is
    c.put_front-at.ensures
    c.put_rest.ensures

pub returns-then-not-readable : goal.returns-then-not-readable
returns-then-not-readable c =
    refused_12 c.args.m c.args.src.now
    c.args.room.now (sym c.readable.ensures ∙ c.if-not-readable.true)
