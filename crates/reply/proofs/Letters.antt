-- Texts, byte by byte.
use Rattle.std.proofs.Common.{◌+◌, List, ℕ, ◌++◌, ◌≡◌, length, decimal, arith, length-append}
use Rattle.reply.specs.Replies.{bulk, bytes_of, crlf, line}
pub use Rattle.wire.proofs.Sizes.{bytes_from}

pub bulk_long : (b : List ℕ) → length (bytes_of (bulk b)) ≡ length (decimal (length b)) + length b + 5
bulk_long b = omega (arith, length-append (line 36 (decimal (length b))) (b ++ crlf), length-append (decimal (length b)) crlf, length-append b crlf)
