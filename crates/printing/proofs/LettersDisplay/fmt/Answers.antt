-- The octets that were passed over are written.
use Rattle.std.proofs.Common.{rules, List, ◌++◌, ◌+◌, get_or, take, ℕ}
use Rattle.std.specs.Fmt.{HasWritten}
use Rattle.std.specs.Char.{encode_utf8}
use mathlib.Core.Path.{◌≡◌, ap, ◌∙◌}
use Rattle.std.proofs.Output.{has_written_append, has_written_of_eq}
use Rattle.printing.specs.Printed.{letters_text}
use Rattle.printing.proofs.Printed.{letter_more, letter_octet}
use Rattle.printing.proofs.LettersDisplay.fmt.Goals as goal

pub loop-octet-preserved : goal.loop-octet-preserved
loop-octet-preserved g c = λ p.
    let s = c.args.self.now.0.now in
    let i = c.loop-octet.octet-index in
    let text = encode_utf8 c.letter.result in
    let wrote : HasWritten g.W.Write.write_str_gives c.loop-octet.f text c.write_char.new.self = search rules in
    let so_far = letters_text (take i s) in
    let e : so_far ++ text ≡ letters_text (take (i + 1) s) =
    ap (λ (c : ℕ). so_far ++ encode_utf8 c) c.letter.ensures
    ∙ ap (λ (t : List ℕ). so_far ++ t) (letter_octet (get_or s i 0)) ∙ letter_more s i (search rules) in
    has_written_of_eq _ _ _ _ _ e (has_written_append _ _ _ _ _ _ (c.loop-octet.invariant p) wrote)
