-- What owning a `Fields` by value tells of its lists. A function's proof cites it at `c.good`.
use mathlib.Core.List.{List}
use mir.Syntax.{w8}
use mir.Val.{Val}
use denote.Shadow.{shadow}
use borrow.Author.Rules.{elem_Fits}
use Rattle.frame.specs.declared.content.Fields.{Fields}
use Rattle.frame.specs.Content.{Shaped}
use Rattle.frame.specs.contracts.content.Fields as F

pub shaped : (f : Fields) (vs : List Val) → shadow ((F.the_row).own_val f vs) → Shaped f
shaped f vs g =
    let ads = g.1.1.0 in
    let adp = g.1.1.1.0 in
    let za1 = g.1.1.1.1.0 in
    let za2 = g.1.1.1.1.1.0 in
    let tab = g.1.1.1.1.1.1.0 in
    let announced = g.1.1.1.1.1.1.1.0 in
    record {
      ads_long = ads.1.0.1;
      za1_long = za1.1.0.1;
      za2_long = za2.1.0.1;
      announced_long = announced.1.0.1;
      ads_octets = λ i. (elem_Fits w8 w8 f.ads ads.0 i ads.1.1 tt).fits;
      za1_octets = λ i. (elem_Fits w8 w8 f.za1 za1.0 i za1.1.1 tt).fits;
      za2_octets = λ i. (elem_Fits w8 w8 f.za2 za2.0 i za2.1.1 tt).fits;
      announced_octets = λ i. (elem_Fits w8 w8 f.announced announced.0 i announced.1.1 tt).fits;
      adp_octet = adp.1;
      tab_octet = tab.1;
    }
