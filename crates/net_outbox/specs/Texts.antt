-- The bytes of a text.
use Rattle.std.specs.Prelude.{ℕ, List, ◌++◌}
use Rattle.net_outbox.specs.declared.text.Text.{Text}

-- those of its own, and then those that it shares
abbrev pub text_bytes : Text → List ℕ
text_bytes t = t.own.items ++ t.shared
