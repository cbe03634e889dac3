-- The octets that were passed over are written.
use Rattle.std.proofs.Common.{rules, [], ◌∷◌, ◌-◌, ◌^◌, false, get_or}
use Rattle.std.specs.Fmt.{HasWritten, digits, padded_integral, format_spec}
use Rattle.std.proofs.Output.{has_written_append, has_written_of_eq}
use Rattle.printing.proofs.Printed.{octet_more}
use Rattle.printing.proofs.OctetsDisplay.fmt.Goals as goal

pub loop-octet-preserved : goal.loop-octet-preserved
loop-octet-preserved g c = λ p.
    let s = c.args.self.now.0.now in
    let i = c.loop-octet.octet-index in
    let text = 32 ∷ padded_integral (format_spec 32 0 4 2 (2 ^ 64 - 1)) false [] (digits 16 false (get_or s i 0)) in
    let wrote : HasWritten g.W.Write.write_str_gives c.loop-octet.f text c.write.new.self = search rules in
    has_written_of_eq _ _ _ _ _ (octet_more s i (search rules) (search rules))
    (has_written_append _ _ _ _ _ _ (c.loop-octet.invariant p) wrote)
