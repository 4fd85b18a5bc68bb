use Rattle.std.proofs.Common.{◌≡◌, ◌++◌, drop}
use Rattle.std.specs.Prelude.{string_bytes}
use Rattle.tb_text.specs.Borrows.{plain_pieces}
use Rattle.tb_text.specs.Messages.{filled, message}
use Rattle.tb_text.proofs.messages.message.Given as goal

abbrev pub invariant-loop-words : goal.invariant-loop-words
invariant-loop-words l = string_bytes l.text ++ filled (plain_pieces (drop l.words-index l.words-items)) l.code.number l.first l.second ≡ message l.code l.first l.second
