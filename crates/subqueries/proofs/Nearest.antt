-- The combination of a frame, by how many lie between.
use Rattle.std.proofs.Common.{◌≡◌, ◌∙◌, sym, ap, subst, ℕ, ◌-◌, ◌<◌, List, [], length, map, get_or, reverse}
use Rattle.std.proofs.lemmas.List.{get_or-reverse, get_or-map, length-reverse}
use Rattle.subqueries.specs.Framed.{frame_combination}
use Rattle.subqueries.specs.declared.frames.Frame.{Frame}

pub frame_at : (frames : List Frame) (between : ℕ) (x : Frame) → between < length frames → x ≡ get_or frames (length frames - 1 - between) x → get_or (map frame_combination (reverse frames)) between [] ≡ frame_combination x
frame_at frames between x h e =
    get_or-map frame_combination (reverse frames) between x [] (subst (λ n. between < n) (sym (length-reverse frames)) h)
    ∙ ap frame_combination (get_or-reverse frames between x h ∙ sym e)
