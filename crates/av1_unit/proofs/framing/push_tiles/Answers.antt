use Rattle.std.proofs.Common.{◌≡◌, ◌-◌, ◌++◌, [], List, ℕ, length, take, get_or, nat_lt, sym, ap, ◌∙◌, append_assoc}
use Rattle.std.specs.List.{flat_map}
use Rattle.av1_unit.specs.Framing.{sized, tile_group}
use Rattle.av1_unit.proofs.TileSizes.{flag_of, several}
use Rattle.av1_unit.proofs.framing.push_tiles.Goals as goal

pub returns : goal.returns
unfolding tile_group
returns c =
    let tiles = c.args.tiles.now in
    let n = length tiles in
    let old = c.args.bytes.now.items in
    let flag = flag_of (nat_lt 1 n) in
    let front = flat_map (sized c.args.width) (take (n - 1) tiles) in
    let last = get_or tiles (n - 1) [] in
    let count : c.len-last.result - 1 ≡ n - 1 = ap (λ k. k - 1) c.len-last.ensures in
    let first : c.push_flag.new.bytes.items ≡ old ++ flag =
    c.in_ok-push_flag.ensures ∙ ap (λ b. old ++ flag_of b) (ap (nat_lt 0) count ∙ several n) in
    let second : c.push_sized_tiles.new.bytes.items ≡ old ++ flag ++ front =
    c.in_ok-push_sized_tiles.ensures ∙ ap (λ (l : List ℕ). l ++ flat_map (sized c.args.width) (take (c.len-last.result - 1) tiles)) first ∙ ap (λ k. old ++ flag ++ flat_map (sized c.args.width) (take k tiles)) count in
    let end : c.tile.result.now ≡ last = c.tile.ensures ∙ ap (λ k. get_or tiles k []) count in
    c.in_ok-extend_from_slice.ensures.items ∙ ap (λ (l : List ℕ). l ++ c.tile.result.now) second ∙ ap (λ (l : List ℕ). old ++ flag ++ front ++ l) end
    ∙ append_assoc (old ++ flag) front last ∙ append_assoc old flag (front ++ last) ∙ ap (λ (l : List ℕ). old ++ l) (sym (append_assoc flag front last))
