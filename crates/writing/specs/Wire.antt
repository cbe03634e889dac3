-- A message as octets (document 01, "The packet"). Assumes nothing.
use Rattle.std.specs.Prelude.{ℕ, ◌+◌, List, ◌++◌, length}
use Rattle.message.specs.Message.{Said}
use Rattle.header.specs.Header.{header_size, first_octet, headed}
use Rattle.field_writing.specs.Wire.{body}

unfoldable pub header : Said → List ℕ
header m = headed (first_octet m.kind m.ack) m.ssrc (header_size + length (body m.fields))

unfoldable pub wire : Said → List ℕ
wire m = header m ++ body m.fields
