use Rattle.std.proofs.Common.{◌∙◌, map, string_bytes, sym}
use Rattle.olap_top.proofs.WantedFacts.{few_some, is_wanted, none_wanted, some_wanted}
use Rattle.olap_top.proofs.wanted.Wanted.of_words.Goals as goal

pub returns : goal.returns
returns c =
    let words = map string_bytes c.args.words.now in
    let is = c.by_words.ensures in
    record {
      some = some_wanted words c.by_words.result is;
      sole = λ w want. is ∙ is_wanted words w want;
      few = few_some words c.by_words.result is;
      none = λ none w. none_wanted words w (sym is ∙ none);
    }
