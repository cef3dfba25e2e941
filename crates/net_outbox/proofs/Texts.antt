-- Texts that share nothing.
use Rattle.std.proofs.Common.{◌≡◌, ℕ, List, [], ◌∷◌, ◌++◌, map, ap, ◌∙◌, append-nil, append_assoc}
use Rattle.std.proofs.lemmas.List.{map-append}
use Rattle.net_outbox.specs.Texts.{text_bytes}
use Rattle.net_outbox.specs.declared.text.Text.{Text}

-- bytes with none behind them
pub owned : (own : List ℕ) → own ++ [] ≡ own
owned own = append-nil own

-- one text more, and the rest
pub one_more : (own : List Text) (t : Text) (bytes : List ℕ) (rest : List (List ℕ)) → text_bytes t ≡ bytes → map text_bytes (own ++ t ∷ []) ++ rest ≡ map text_bytes own ++ bytes ∷ rest
one_more own t bytes rest is =
    ap (λ l. l ++ rest) (map-append text_bytes own (t ∷ [])) ∙ append_assoc (map text_bytes own) (text_bytes t ∷ []) rest ∙ ap (λ b. map text_bytes own ++ b ∷ rest) is
