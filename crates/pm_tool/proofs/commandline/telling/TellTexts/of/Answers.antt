use Rattle.std.proofs.Common.{◌∙◌, [], ap, codes, unwrap_or}
use Rattle.clap.specs.Words.{found_of}
use Rattle.clap.proofs.WalkLemmas.{raw_values-rows}
use Rattle.pm_tool.specs.AddressList.{addresses_asked}
use Rattle.pm_tool.proofs.commandline.telling.TellTexts.of.Goals as goal

pub returns : goal.returns
returns c =
    let rows = raw_values-rows (found_of c.args.found.now) in record {
      values = c.is_given.ensures;
      vout = c.given_text.ensures;
      readings = c.given_text-2.ensures;
      all = c.is_given-2.ensures;
      pages = c.is_given-3.ensures;
      gap = c.given_text-3.ensures;
      explain = c.is_given-4.ensures;
      long = c.is_given-5.ensures;
      times = c.is_given-6.ensures;
      json = c.is_given-7.ensures;
      parts = c.read_addresses.ensures ∙ ap (λ o. addresses_asked (unwrap_or o [])) (c.get_strs.ensures ∙ rows (codes "part"));
      muxes = c.read_addresses-2.ensures ∙ ap (λ o. addresses_asked (unwrap_or o [])) (c.get_strs-2.ensures ∙ rows (codes "mux"));
    }
