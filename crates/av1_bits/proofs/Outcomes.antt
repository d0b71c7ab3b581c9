-- What holds of each outcome of a call that moves bytes, where nothing is told of them.
use Rattle.std.proofs.Common.{◌≡◌, ℕ, List, None, Some, Result, Ok, Err, IfOk, OnErr}

pub if_ok : {E : Type 0} (r : Result ℕ E) (P : ℕ → Type 0) → ((n : ℕ) → P n) → IfOk r P
if_ok (Ok n) P holds = holds n
if_ok (Err e) P holds = tt

pub always_on_err : {E : Type 0} (r : Result ℕ E) (Q : Type 0) → Q → OnErr r Q
always_on_err (Ok n) Q holds = tt
always_on_err (Err e) Q holds = holds

pub none-some : (bytes : List ℕ) → None ≡ Some bytes → ⊥
none-some bytes is = cc
