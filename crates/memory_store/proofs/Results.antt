-- Claims on what a call returned.
use Rattle.std.proofs.Common.{Result, Ok, Err, OnOk, OnErr}

pub either_way : {T E : Type 0} (r : Result T E) (A B P : Type 0) → OnOk r A → OnErr r B → (A → P) → (B → P) → P
either_way (Ok x) A B P a b f g = f a
either_way (Err e) A B P a b f g = g b
