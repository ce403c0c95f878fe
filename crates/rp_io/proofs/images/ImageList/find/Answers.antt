use Rattle.std.proofs.Common.{bytes_eq, option_copied, rules, tests, ap, ◌∙◌, Some}
use Rattle.std.proofs.lemmas.Iterator.{YieldsList-from_slice}
use Rattle.std.proofs.lemmas.Iterator.Search.{find_from_yields_List}
use Rattle.rp_io.proofs.Named.{image_named-found}
use Rattle.rp_io.proofs.images.ImageList.find.Goals as goal

pub returns : goal.returns
returns c =
    let images = c.self.inside.images.items in
    let searched = find_from_yields_List (λ image. bytes_eq image.0 c.args.name.now) _ _ c.find.result c.find.ensures.ran (YieldsList-from_slice images cc) (λ x b q k. search (rules, tests)) in
    let found = image_named-found c.find.result images c.args.self.now c.args.name.now searched c.self.view_is in
    ap Some c.deref-2.ensures.value ∙ (rw c.in_ok-image.was at found)

pub returns-in_err-image : goal.returns-in_err-image
returns-in_err-image c =
    let images = c.self.inside.images.items in
    let searched = find_from_yields_List (λ image. bytes_eq image.0 c.args.name.now) _ _ c.find.result c.find.ensures.ran (YieldsList-from_slice images cc) (λ x b q k. search (rules, tests)) in
    let found = image_named-found c.find.result images c.args.self.now c.args.name.now searched c.self.view_is in
    ap option_copied c.from_residual.ensures ∙ (rw c.in_err-image.was at found)
